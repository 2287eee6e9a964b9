-- The places of pages in rising order, and marks over them.
use Rattle.trio_case.proofs.Words.{◌<◌, ◌||◌, ◌∙◌, ◌∷◌, ◌≡◌, ◌≤◌, ◌⊎◌, AreRising, Bool, Err, In, In-is_among, IsBinarySearchResult, KeptPage, List, MatchOption, MatchResult, None, Ok, Option, Result, Some, [], ap, are_new, are_new-first, arith, cases_eq, cond, eqb, false, false≢true, get_or, get_or-set_other, get_or-set_same, in_order, inl, inr, inserted_by, is_among, is_among-not, length, nat_cmp, nat_le, nat_tests, numbers_of, option_and_then, option_map, option_map_or, place_of, refl, replicate, result_ok, searched, set, slice_get, sorted_in, subst, suc, sym, true, zero, ℕ, ⊤}
use Rattle.trio_lists.proofs.Sorting.{in_sorted}
use Rattle.trio_case.specs.Order.{is_marked, AreMarked}

-- ---- places

pub same_here : (n : ℕ) → eqb n n ≡ true
same_here n = grind (arith, nat_tests)

pub differs : (m n : ℕ) → (m ≡ n → ⊥) → eqb m n ≡ false
differs m n h = grind (arith, nat_tests)

-- what stands at the place of a number
pub place_has : (n : ℕ) (xs : List ℕ) (i : ℕ) → place_of n xs ≡ Some i → (i < length xs) × (get_or xs i 0 ≡ n)
place_has n [] i h = absurd cc
place_has n (x ∷ xs) i h = by (eqb x n) refl h (λ j e. place_has n xs j e)
  where
    later : (o : Option ℕ) → place_of n xs ≡ o → option_map suc o ≡ Some i → ((j : ℕ) → place_of n xs ≡ Some j → (j < length xs) × (get_or xs j 0 ≡ n)) → (i < length (x ∷ xs)) × (get_or (x ∷ xs) i 0 ≡ n)
    later None e h rest = absurd cc
    later (Some j) e h rest =
        let there = rest j e in
        let is : suc j ≡ i = cc in
        subst (λ k. (k < length (x ∷ xs)) × (get_or (x ∷ xs) k 0 ≡ n)) is (omega (arith, there.0), there.1)

    by : (b : Bool) → eqb x n ≡ b → cond b (Some 0) (option_map suc (place_of n xs)) ≡ Some i → ((j : ℕ) → place_of n xs ≡ Some j → (j < length xs) × (get_or xs j 0 ≡ n)) → (i < length (x ∷ xs)) × (get_or (x ∷ xs) i 0 ≡ n)
    by true e h rest =
        let first : 0 ≡ i = cc in
        let same : x ≡ n = grind (arith, nat_tests) in
        subst (λ k. (k < length (x ∷ xs)) × (get_or (x ∷ xs) k 0 ≡ n)) first (omega arith, same)
    by false e h rest = later (place_of n xs) refl h rest

-- the first place at which a number stands is its place
pub place_is : (n : ℕ) (xs : List ℕ) (i : ℕ) → i < length xs → get_or xs i 0 ≡ n → ((k : ℕ) → k < i → get_or xs k 0 ≡ n → ⊥) → place_of n xs ≡ Some i
place_is n [] i l h before = absurd (omega (arith, l))
place_is n (x ∷ xs) zero l h before = rw (h, same_here n) refl
place_is n (x ∷ xs) (suc i) l h before =
    let other : eqb x n ≡ false = differs x n (before 0 (omega arith)) in
    rw (other, place_is n xs i (omega (arith, l)) h (λ k m. before (suc k) (omega (arith, m)))) refl

pub place_none : (n : ℕ) (xs : List ℕ) → ((k : ℕ) → k < length xs → get_or xs k 0 ≡ n → ⊥) → place_of n xs ≡ None
place_none n [] h = refl
place_none n (x ∷ xs) h =
    let other : eqb x n ≡ false = differs x n (h 0 (omega arith)) in
    rw (other, place_none n xs (λ k l. h (suc k) (omega (arith, l)))) refl

-- a search among rising numbers finds the place
pub found_place : (xs : List ℕ) (n : ℕ) (r : Result ℕ ℕ) → AreRising xs → IsBinarySearchResult (λ y. nat_cmp y n) xs r → place_of n xs ≡ result_ok r
found_place xs n r up is = of r (searched xs n r is (λ i j le l. no_less i j le l (cases_eq i j)))
  where
    no_less : (i j : ℕ) → i ≤ j → j < length xs → (i ≡ j) ⊎ (i ≡ j → ⊥) → get_or xs i 0 ≤ get_or xs j 0
    no_less i j le l (inl same) = rw same (omega arith)
    no_less i j le l (inr d) =
        let before : i < j = omega (arith, le, d) in
        omega (arith, up i j before l)

    of : (r : Result ℕ ℕ) → MatchResult r (λ i. (i < length xs) × (get_or xs i 0 ≡ n)) (λ i. (i ≤ length xs) × ((k : ℕ) → k < i → get_or xs k 0 < n) × ((k : ℕ) → i ≤ k → k < length xs → n < get_or xs k 0)) → place_of n xs ≡ result_ok r
    of (Ok i) h = place_is n xs i h.0 h.1 (λ k l e. (let less = up k i l h.0 in omega (arith, less, e, h.1)))
    of (Err i) h = place_none n xs (λ k l e. apart k l e h.1 h.2)
      where
        apart : (k : ℕ) → k < length xs → get_or xs k 0 ≡ n → ((k : ℕ) → k < i → get_or xs k 0 < n) → ((k : ℕ) → i ≤ k → k < length xs → n < get_or xs k 0) → ⊥
        apart k l e below above = grind (arith, below k, above k)

-- ---- the order

pub from_inserted : (n w : ℕ) (xs : List ℕ) → In n (inserted_by (λ x. x) w xs) → (n ≡ w) ⊎ In n xs
from_inserted n w [] i = i
from_inserted n w (x ∷ xs) i = by (nat_le w x) (λ j. from_inserted n w xs j) i
  where
    by : (b : Bool) → (In n (inserted_by (λ x. x) w xs) → (n ≡ w) ⊎ In n xs) → In n (cond b (w ∷ (x ∷ xs)) (x ∷ inserted_by (λ x. x) w xs)) → (n ≡ w) ⊎ In n (x ∷ xs)
    by true rest i = i
    by false rest (inl e) = inr (inl e)
    by false rest (inr i) = elim (rest i) [ inl e ↦ inl e | inr j ↦ inr (inr j) ]

-- each number is below those behind it
abbrev Climbs : List ℕ → Type 0
Climbs [] = ⊤
Climbs (x ∷ xs) = ((n : ℕ) → In n xs → x < n) × Climbs xs

inserted_climbs : (w : ℕ) (xs : List ℕ) → (In w xs → ⊥) → Climbs xs → Climbs (inserted_by (λ x. x) w xs)
inserted_climbs w [] out c = ((λ n i. absurd i), tt)
inserted_climbs w (x ∷ xs) out c = by (nat_le w x) refl (inserted_climbs w xs (λ i. out (inr i)) c.1)
  where
    by : (b : Bool) → nat_le w x ≡ b → Climbs (inserted_by (λ x. x) w xs) → Climbs (cond b (w ∷ (x ∷ xs)) (x ∷ inserted_by (λ x. x) w xs))
    by true e rest =
        let le : w ≤ x = grind (arith, nat_tests) in
        let less : w < x = omega (arith, le, λ (s : w ≡ x). out (inl s)) in
        ((λ n i. elim i [ inl s ↦ rw s less | inr j ↦ omega (arith, less, c.0 n j) ]), c)
    by false e rest =
        let less : x < w = grind (arith, nat_tests) in
        ((λ n i. elim (from_inserted n w xs i) [ inl s ↦ rw s less | inr j ↦ c.0 n j ]), rest)

sorted_climbs : (xs : List ℕ) → are_new [] xs ≡ true → Climbs (in_order xs)
sorted_climbs [] h = tt
sorted_climbs (x ∷ xs) h =
    let first = are_new-first x xs h in
    inserted_climbs x (in_order xs) (λ i. first.0 (sorted_in (λ n. n) x xs i)) (sorted_climbs xs first.1)

at_In : (xs : List ℕ) (i : ℕ) → i < length xs → In (get_or xs i 0) xs
at_In [] i l = absurd (omega (arith, l))
at_In (x ∷ xs) zero l = inl refl
at_In (x ∷ xs) (suc i) l = inr (at_In xs i (omega (arith, l)))

climbs_rise : (xs : List ℕ) → Climbs xs → AreRising xs
climbs_rise [] c i j l m = absurd (omega (arith, m))
climbs_rise (x ∷ xs) c i zero l m = absurd (omega (arith, l))
climbs_rise (x ∷ xs) c zero (suc j) l m = c.0 (get_or xs j 0) (at_In xs j (omega (arith, m)))
climbs_rise (x ∷ xs) c (suc i) (suc j) l m = climbs_rise xs c.1 i j (omega (arith, l)) (omega (arith, m))

-- distinct pages in order rise
pub order_rises : (pages : List ℕ) → are_new [] pages ≡ true → AreRising (in_order pages)
order_rises pages new = climbs_rise (in_order pages) (sorted_climbs pages new)

inserted_length : {X : Type 0} (key : X → ℕ) (w : X) (xs : List X) → length (inserted_by key w xs) ≡ suc (length xs)
inserted_length key w [] = refl
inserted_length key w (x ∷ xs) = by (nat_le (key w) (key x)) (inserted_length key w xs)
  where
    by : (b : Bool) → length (inserted_by key w xs) ≡ suc (length xs) → length (cond b (w ∷ (x ∷ xs)) (x ∷ inserted_by key w xs)) ≡ suc (suc (length xs))
    by true rest = refl
    by false rest = ap suc rest

-- and are as many
pub order_length : (pages : List ℕ) → length (in_order pages) ≡ length pages
order_length [] = refl
order_length (x ∷ xs) = inserted_length (λ n. n) x (in_order xs) ∙ ap suc (order_length xs)

-- ---- the pages at their places

-- what stands at the place of a number has it
pub placed : (ps : List KeptPage) (page : ℕ) → MatchOption (option_and_then (slice_get ps) (place_of page (numbers_of ps))) (is_among page (numbers_of ps) ≡ false) (λ p. p.no ≡ page)
placed [] page = refl
placed (p ∷ ps) page = by (eqb p.no page) refl (placed ps page)
  where
    later : (o : Option ℕ) → MatchOption (option_and_then (slice_get ps) o) (is_among page (numbers_of ps) ≡ false) (λ q. q.no ≡ page) → MatchOption (option_and_then (slice_get (p ∷ ps)) (option_map suc o)) (is_among page (numbers_of ps) ≡ false) (λ q. q.no ≡ page)
    later None h = h
    later (Some i) h = h

    by : (b : Bool) → eqb p.no page ≡ b → MatchOption (option_and_then (slice_get ps) (place_of page (numbers_of ps))) (is_among page (numbers_of ps) ≡ false) (λ q. q.no ≡ page) → MatchOption (option_and_then (slice_get (p ∷ ps)) (cond b (Some 0) (option_map suc (place_of page (numbers_of ps))))) ((b || is_among page (numbers_of ps)) ≡ false) (λ q. q.no ≡ page)
    by true e h = grind (arith, nat_tests)
    by false e h = later (place_of page (numbers_of ps)) h

-- one that isn't in the order is none of the pages
pub not_ordered : (page : ℕ) (pages : List ℕ) → is_among page (in_order pages) ≡ false → is_among page pages ≡ false
not_ordered page pages h =
    is_among-not page pages (λ i. false≢true (sym h ∙ there (in_sorted (λ n. n) page pages i)))
  where
    there : In page (in_order pages) → is_among page (in_order pages) ≡ true
    there i = In-is_among page (in_order pages) i

-- and has no place
pub unplaced : (page : ℕ) (pages : List ℕ) → is_among page pages ≡ false → place_of page (in_order pages) ≡ None
unplaced page pages h = place_none page (in_order pages) (λ k l e. false≢true (sym h ∙ In-is_among page pages (sorted_in (λ n. n) page pages (subst (λ n. In n (in_order pages)) e (at_In (in_order pages) k l)))))

-- ---- marks

or_true : (a : Bool) → true ≡ (a || true)
or_true true = refl
or_true false = refl

pub or_false : (a : Bool) → a ≡ (a || false)
or_false true = refl
or_false false = refl

abbrev mark_of : List Bool → Option ℕ → Bool
mark_of marks o = option_map_or (λ at. get_or marks at false) o false

-- a mark more
pub mark_more : (order : List ℕ) (marks : List Bool) (page at : ℕ) → place_of page order ≡ Some at → at < length marks → (other : ℕ) → mark_of (set marks at true) (place_of other order) ≡ (mark_of marks (place_of other order) || eqb page other)
mark_more order marks page at is l other = by (place_of other order) refl
  where
    apart : (o : Option ℕ) → place_of other order ≡ o → (o ≡ Some at → ⊥) → eqb page other ≡ false
    apart o e h = differs page other (λ s. h (sym e ∙ ap (λ n. place_of n order) (sym s) ∙ is))

    by : (o : Option ℕ) → place_of other order ≡ o → mark_of (set marks at true) o ≡ (mark_of marks o || eqb page other)
    by None e = rw (apart None e (λ x. cc)) refl
    by (Some j) e =
        elim (cases_eq j at) [
          | inl same ↦
              let number : other ≡ page = sym (place_has other order j e).1 ∙ ap (λ i. get_or order i 0) same ∙ (place_has page order at is).1 in
              let here : eqb page other ≡ true = rw number (same_here page) in
              rw (same, here) (get_or-set_same marks at true false l ∙ or_true (get_or marks at false))
          | inr differ ↦
              rw (apart (Some j) e (λ x. differ cc)) (get_or-set_other marks at j true false differ ∙ or_false (get_or marks j false))
        ]

no_mark_at : (n k : ℕ) → get_or (replicate n false) k false ≡ false
no_mark_at zero k = refl
no_mark_at (suc n) zero = refl
no_mark_at (suc n) (suc k) = no_mark_at n k

-- marks that were just made
pub none_marked : (pages : List ℕ) (n page : ℕ) → is_marked pages (replicate n false) page ≡ false
none_marked pages n page = by (place_of page (in_order pages))
  where
    by : (o : Option ℕ) → mark_of (replicate n false) o ≡ false
    by None = refl
    by (Some at) = no_mark_at n at

pub are_unmarked : (pages : List ℕ) (n : ℕ) → AreMarked pages (replicate n false) []
are_unmarked pages n = λ page i. none_marked pages n page
