-- How many rows are copied for a bundle at most.
use Rattle.trio_case.proofs.Words.{◌+◌, ◌<◌, ◌||◌, ◌∙◌, ◌∷◌, ◌≡◌, ◌≤◌, Bool, Bundled, HoldParts, LentFile, List, None, Numbers, Option, Row, Some, Tells, [], ap, arith, bundle_in, cond, count_by, eqb, false, is_among, is_written, length, length-map, most_copied, nat_tests, refl, row_in, suc, sym, take, true, zero, ℕ}
use Rattle.std.proofs.lemmas.List.Sums.{sum_by-le-sum_by, sum_by-take-le, sum_by_more}
use Rattle.trio_case.specs.Cases.{is_child}
use Rattle.trio_case.specs.inner.Maps.{stands_in}
use Rattle.trio_case.proofs.CaseRows.{written_is}

-- ---- numbers that pass a test

-- how many numbers below this one pass
abbrev pub passing : (ℕ → Bool) → ℕ → ℕ
passing p zero = 0
passing p (suc k) = cond (p k) 1 0 + passing p k

passing_more : (p : ℕ → Bool) (k : ℕ) → passing p (k + 1) ≡ cond (p k) 1 0 + passing p k
passing_more p k = let e : k + 1 ≡ suc k = omega arith in ap (passing p) e

-- those that pass one of two tests
passing_either : (p q : ℕ → Bool) (k : ℕ) → passing (λ n. p n || q n) k ≤ passing p k + passing q k
passing_either p q zero = omega arith
passing_either p q (suc k) = by (p k) (q k) (passing (λ n. p n || q n) k) (passing p k) (passing q k) (passing_either p q k)
  where
    by : (a b : Bool) (m i j : ℕ) → m ≤ i + j → cond (a || b) 1 0 + m ≤ (cond a 1 0 + i) + (cond b 1 0 + j)
    by true true m i j h = omega (arith, h)
    by true false m i j h = omega (arith, h)
    by false true m i j h = omega (arith, h)
    by false false m i j h = omega (arith, h)

passing_none : (k : ℕ) → passing (λ n. false) k ≡ 0
passing_none zero = refl
passing_none (suc k) = let rest = passing_none k in omega (arith, rest)

-- a number is none of those below it
not_below : (x k : ℕ) → k ≤ x → passing (λ n. eqb x n) k ≡ 0
not_below x zero h = refl
not_below x (suc k) h = by (eqb x k) refl (not_below x k (omega (arith, h)))
  where
    by : (b : Bool) → eqb x k ≡ b → passing (λ n. eqb x n) k ≡ 0 → cond b 1 0 + passing (λ n. eqb x n) k ≡ 0
    by true e rest = let same : x ≡ k = grind (arith, nat_tests) in absurd (omega (arith, same, h))
    by false e rest = omega (arith, rest)

-- and stands there once
passing_one : (x k : ℕ) → passing (λ n. eqb x n) k ≤ 1
passing_one x zero = omega arith
passing_one x (suc k) = by (eqb x k) refl (passing_one x k)
  where
    by : (b : Bool) → eqb x k ≡ b → passing (λ n. eqb x n) k ≤ 1 → cond b 1 0 + passing (λ n. eqb x n) k ≤ 1
    by true e rest =
        let same : x ≡ k = grind (arith, nat_tests) in
        let none : passing (λ n. eqb x n) k ≡ 0 = not_below x k (omega (arith, same)) in
        omega (arith, none)
    by false e rest = omega (arith, rest)

-- the numbers of a list are no more than it has
passing_among : (ns : List ℕ) (k : ℕ) → passing (λ n. is_among n ns) k ≤ length ns
passing_among [] k = let none : passing (λ n. is_among n []) k ≡ 0 = passing_none k in omega (arith, none)
passing_among (x ∷ xs) k =
    let either : passing (λ n. is_among n (x ∷ xs)) k ≤ passing (λ n. eqb x n) k + passing (λ n. is_among n xs) k = passing_either (λ n. eqb x n) (λ n. is_among n xs) k in
    omega (arith, either, passing_one x k, passing_among xs k)

-- ---- rows that are copied

-- No more rows than so many are copied of the numbers below this one: of those that are written or held, and of the
-- children.
abbrev pub copied_below : Numbers → List (Option Row) → ℕ → ℕ
copied_below t rows k = passing (λ n. is_among n t.writes || is_among n t.holds) k + count_by (stands_in t.writes) (take k rows)

children_more : (dirs : List ℕ) (rows : List (Option Row)) (k : ℕ) → k < length rows → count_by (stands_in dirs) (take (k + 1) rows) ≡ count_by (stands_in dirs) (take k rows) + cond (stands_in dirs (row_in rows k)) 1 0
children_more dirs rows k within = sum_by_more (λ r. cond (stands_in dirs r) 1 0) rows k None within

pub copied_later : (t : Numbers) (rows : List (Option Row)) (k : ℕ) → k < length rows → copied_below t rows k ≤ copied_below t rows (k + 1)
copied_later t rows k within =
    omega (arith, passing_more (λ n. is_among n t.writes || is_among n t.holds) k, children_more t.writes rows k within)

-- one more where the row of this number is copied
pub copied_next : (t : Numbers) (rows : List (Option Row)) (k : ℕ) (r : Row) → k < length rows → row_in rows k ≡ Some r → (is_among k t.writes || is_among k t.holds || is_among r.parent t.writes) ≡ true → copied_below t rows k + 1 ≤ copied_below t rows (k + 1)
copied_next t rows k r within is own =
    let child : stands_in t.writes (row_in rows k) ≡ is_among r.parent t.writes = ap (stands_in t.writes) is in
    let children : count_by (stands_in t.writes) (take (k + 1) rows) ≡ count_by (stands_in t.writes) (take k rows) + cond (is_among r.parent t.writes) 1 0 =
    children_more t.writes rows k within ∙ ap (λ b. count_by (stands_in t.writes) (take k rows) + cond b 1 0) child in
    let one = by (is_among k t.writes) (is_among k t.holds) (is_among r.parent t.writes) own in
    omega (arith, passing_more (λ n. is_among n t.writes || is_among n t.holds) k, children, one)
  where
    by : (w h c : Bool) → (w || h || c) ≡ true → 1 ≤ cond (w || h) 1 0 + cond c 1 0
    by true h c e = omega arith
    by false true c e = omega arith
    by false false true e = omega arith
    by false false false e = absurd cc

-- and in all no more than of the whole table
pub copied_few : (t : Numbers) (rows : List (Option Row)) (k : ℕ) → copied_below t rows k ≤ most_copied t rows
copied_few t rows k =
    omega (
      arith,
      passing_either (λ n. is_among n t.writes) (λ n. is_among n t.holds) k,
      passing_among t.writes k,
      passing_among t.holds k,
      sum_by-take-le (λ r. cond (stands_in t.writes r) 1 0) rows k,
    )

-- these are no more than the bundle's own files and the children of its directories
pub most_of : (t : Numbers) (b : Bundled) (rows : List (Option Row)) → Tells t b → most_copied t rows ≤ length b.writes + length b.holds + count_by (is_child b) rows
most_of t b rows tells =
    let writes = ap length tells.writes ∙ length-map b.writes (λ (f : LentFile). f.stands.ino) in
    let holds = ap length tells.holds ∙ length-map b.holds (λ (h : HoldParts). h.ino) in
    let children : count_by (stands_in t.writes) rows ≤ count_by (is_child b) rows = sum_by-le-sum_by (λ r. cond (stands_in t.writes r) 1 0) (λ r. cond (is_child b r) 1 0) rows each in
    omega (arith, writes, holds, children)
  where
    each : (r : Option Row) → cond (stands_in t.writes r) 1 0 ≤ cond (is_child b r) 1 0
    each None = omega arith
    each (Some r) =
        let same : is_among r.parent t.writes ≡ is_written (bundle_in b) r.parent = ap (is_among r.parent) tells.writes ∙ sym (written_is b.writes r.parent) in
        rw same (omega arith)
