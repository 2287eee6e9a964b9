-- A walk with a queue meets what a walk by levels meets.
use Rattle.trio_layout.proofs.Words.{◌++◌, ◌+◌, ◌-◌, ◌<◌, ◌||◌, ◌∙◌, ◌∷◌, ◌≡◌, ◌≤◌, ◌⊎◌, Bool, Front, List, Met, [], and_from, ap, append-nil, append_assoc, are_new, are_new-append, arith, cases_eq, cases_lt, cond, descend, drop, eqb, false, first_listed, flat_map, get_or, get_or_append_left, inl, inr, is_among, length, length-drop, levels, map-append, nat_tests, not, numbers, pass, pass_on, refl, suc, sym, take, take-append-drop, true, zero, ℕ}
use Rattle.std.proofs.Common.{length-append}
use Rattle.std.proofs.lemmas.Bool.{or_left}
use Rattle.trio_lists.proofs.Marked.{is_among-append}
use Rattle.trio_layout.specs.Queue.{queue}

abbrev pub pass_many : (Met → List Met) → ℕ → Front → Front
pass_many kids zero f = f
pass_many kids (suc n) f = pass_many kids n (pass kids f)

first_listed-step : (b : Bool) (seen : List ℕ) (m : Met) (ms ys : List Met) → first_listed seen (ms ++ ys) ≡ first_listed seen ms ++ first_listed (seen ++ numbers (first_listed seen ms)) ys → first_listed (seen ++ m.ino ∷ []) (ms ++ ys) ≡ first_listed (seen ++ m.ino ∷ []) ms ++ first_listed ((seen ++ m.ino ∷ []) ++ numbers (first_listed (seen ++ m.ino ∷ []) ms)) ys → cond b (first_listed seen (ms ++ ys)) (m ∷ first_listed (seen ++ m.ino ∷ []) (ms ++ ys)) ≡ cond b (first_listed seen ms) (m ∷ first_listed (seen ++ m.ino ∷ []) ms) ++ first_listed (seen ++ numbers (cond b (first_listed seen ms) (m ∷ first_listed (seen ++ m.ino ∷ []) ms))) ys
first_listed-step true seen m ms ys p q = p
first_listed-step false seen m ms ys p q =
    ap (λ zs. m ∷ zs) (q ∙ ap (λ ns. first_listed (seen ++ m.ino ∷ []) ms ++ first_listed ns ys) (append_assoc seen (m.ino ∷ []) (numbers (first_listed (seen ++ m.ino ∷ []) ms))))

pub first_listed-append : (seen : List ℕ) (xs ys : List Met) → first_listed seen (xs ++ ys) ≡ first_listed seen xs ++ first_listed (seen ++ numbers (first_listed seen xs)) ys
first_listed-append seen [] ys = sym (ap (λ ns. first_listed ns ys) (append-nil seen))
first_listed-append seen (m ∷ ms) ys =
    first_listed-step (is_among m.ino seen) seen m ms ys (first_listed-append seen ms ys) (first_listed-append (seen ++ m.ino ∷ []) ms ys)

numbers-step : (done : List Met) (m : Met) (ms nxt new : List Met) → numbers ((done ++ m ∷ []) ++ (ms ++ (nxt ++ new))) ≡ numbers (done ++ m ∷ (ms ++ nxt)) ++ numbers new
numbers-step done m ms nxt new = simp (map-append, append_assoc)

-- the files at the front of the queue are passed, and what they list first stands at its end
pub pass_many-level : (kids : Met → List Met) (cur done nxt : List Met) → pass_many kids (length cur) (record { passed = done; level = cur ++ nxt }) ≡ record { passed = done ++ cur; level = nxt ++ first_listed (numbers (done ++ (cur ++ nxt))) (flat_map kids cur) }
pass_many-level kids [] done nxt = rw (append-nil done, append-nil nxt) refl
pass_many-level kids (m ∷ ms) done nxt =
    let N : List ℕ = numbers (done ++ m ∷ (ms ++ nxt)) in
    let new : List Met = first_listed N (kids m) in
    let ih = pass_many-level kids ms (done ++ m ∷ []) (nxt ++ new) in
    let e1 : (ms ++ nxt) ++ new ≡ ms ++ (nxt ++ new) = append_assoc ms nxt new in
    let e2 : (done ++ m ∷ []) ++ ms ≡ done ++ m ∷ ms = append_assoc done (m ∷ []) ms in
    let e3 = numbers-step done m ms nxt new in
    let e4 = first_listed-append N (kids m) (flat_map kids ms) in
    ap (λ l. pass_many kids (length ms) (record { passed = done ++ m ∷ []; level = l })) e1
    ∙ ih
    ∙ ap (λ p. record { passed = p; level = (nxt ++ new) ++ first_listed (numbers ((done ++ m ∷ []) ++ (ms ++ (nxt ++ new)))) (flat_map kids ms) }) e2
    ∙ ap (λ ns. record { passed = done ++ m ∷ ms; level = (nxt ++ new) ++ first_listed ns (flat_map kids ms) }) e3
    ∙ ap (λ l. record { passed = done ++ m ∷ ms; level = l }) (append_assoc nxt new _ ∙ ap (λ l. nxt ++ l) (sym e4))

pub descend_is : (kids : Met → List Met) (f : Front) → descend kids f ≡ pass_many kids (length f.level) f
descend_is kids f =
    let e = pass_many-level kids f.level f.passed [] in
    let n = append-nil f.level in
    sym (ap (λ l. pass_many kids (length f.level) (record { passed = f.passed; level = l })) (sym n) ∙ e ∙ ap (λ l. record { passed = f.passed ++ f.level; level = first_listed (numbers (f.passed ++ l)) (flat_map kids f.level) }) n)

pass_many-queue : (kids : Met → List Met) (root : Met) (n i : ℕ) → pass_many kids n (queue kids root i) ≡ queue kids root (i + n)
pass_many-queue kids root zero i = let e : i ≡ i + 0 = omega arith in ap (queue kids root) e
pass_many-queue kids root (suc n) i =
    let e : suc i + n ≡ i + suc n = omega arith in pass_many-queue kids root n (suc i) ∙ ap (queue kids root) e

-- the state after k levels is the state of the queue after as many files
pub levels_are : (kids : Met → List Met) (root : Met) (k : ℕ) → levels kids root k ≡ queue kids root (length (levels kids root k).passed)
levels_are kids root zero = refl
levels_are kids root (suc k) =
    let f = levels kids root k in
    descend_is kids f
    ∙ ap (pass_many kids (length f.level)) (levels_are kids root k)
    ∙ pass_many-queue kids root (length f.level) (length f.passed)
    ∙ ap (queue kids root) (sym (length-append f.passed f.level))

-- an empty queue stays as it is
pub queue_stays : (kids : Met → List Met) (root : Met) (i n : ℕ) → (queue kids root i).level ≡ [] → queue kids root (i + n) ≡ queue kids root i
queue_stays kids root i zero e = let z : i + 0 ≡ i = omega arith in ap (queue kids root) z
queue_stays kids root i (suc n) e =
    let ih = queue_stays kids root i n e in
    let s : i + suc n ≡ suc (i + n) = omega arith in
    let f = queue kids root i in
    ap (queue kids root) s ∙ ap (pass kids) ih ∙ ap (pass_on kids f.passed) e ∙ ap (λ l. record { passed = f.passed; level = l }) (sym e)

-- once the queue is empty it has no more to give
pub queue_ended : (kids : Met → List Met) (root : Met) (i m : ℕ) → i ≤ m → (queue kids root i).level ≡ [] → queue kids root m ≡ queue kids root i
queue_ended kids root i m h e =
    let s : m ≡ i + (m - i) = omega arith in ap (queue kids root) s ∙ queue_stays kids root i (m - i) e

-- all files that a walk has met
abbrev pub met_by : Front → List Met
met_by f = f.passed ++ f.level

pass_on-keeps : (kids : Met → List Met) (done l : List Met) → (rest : List Met) × (met_by (pass_on kids done l) ≡ (done ++ l) ++ rest)
pass_on-keeps kids done [] = ([], sym (append-nil (done ++ [])))
pass_on-keeps kids done (m ∷ ms) = (first_listed (numbers (done ++ m ∷ ms)) (kids m), simp append_assoc)

-- the files that are met once stay where they are
pub queue_keeps : (kids : Met → List Met) (root : Met) (i n : ℕ) → (rest : List Met) × (met_by (queue kids root (i + n)) ≡ met_by (queue kids root i) ++ rest)
queue_keeps kids root i zero =
    let z : i + 0 ≡ i = omega arith in ([], ap (λ j. met_by (queue kids root j)) z ∙ sym (append-nil _))
queue_keeps kids root i (suc n) =
    let ih = queue_keeps kids root i n in
    let s : i + suc n ≡ suc (i + n) = omega arith in
    let f = queue kids root (i + n) in
    let more = pass_on-keeps kids f.passed f.level in
    (ih.0 ++ more.0, ap (λ j. met_by (queue kids root j)) s ∙ more.1 ∙ ap (λ l. l ++ more.0) ih.1 ∙ append_assoc (met_by (queue kids root i)) ih.0 more.0)

descend-enough : (kids : Met → List Met) (f : Front) (k : ℕ) (l : List Met) → f.level ≡ l → (f.level ≡ []) ⊎ (k ≤ length f.passed) → ((descend kids f).level ≡ []) ⊎ (suc k ≤ length (descend kids f).passed)
descend-enough kids f k [] e h = inl (ap (λ l. first_listed (numbers (f.passed ++ l)) (flat_map kids l)) e)
descend-enough kids f k (m ∷ ms) e (inl q) = absurd cc
descend-enough kids f k (m ∷ ms) e (inr h) =
    inr (omega (arith, length-append f.passed f.level, ap length e))

-- as long as levels are not empty, each brings a file
pub levels_enough : (kids : Met → List Met) (root : Met) (k : ℕ) → ((levels kids root k).level ≡ []) ⊎ (k ≤ length (levels kids root k).passed)
levels_enough kids root zero = inr (omega arith)
levels_enough kids root (suc k) =
    descend-enough kids (levels kids root k) k (levels kids root k).level refl (levels_enough kids root k)

done_at : (kids : Met → List Met) (root : Met) (depth i : ℕ) (files : List Met) → queue kids root i ≡ record { passed = files; level = [] } → queue kids root (length (levels kids root depth).passed) ≡ queue kids root i → (levels kids root depth).passed ≡ files
done_at kids root depth i files q e = ap (λ f. f.passed) (levels_are kids root depth ∙ e ∙ q)

-- where the queue is empty after no more files than there are levels, its files are those of the levels
pub files_are_levels : (kids : Met → List Met) (root : Met) (depth i : ℕ) (files : List Met) → queue kids root i ≡ record { passed = files; level = [] } → i ≤ depth → (levels kids root depth).passed ≡ files
files_are_levels kids root depth i files q h =
    let m : ℕ = length (levels kids root depth).passed in
    let ended : (queue kids root i).level ≡ [] = ap (λ f. f.level) q in
    let now : levels kids root depth ≡ queue kids root m = levels_are kids root depth in
    done_at kids root depth i files q
    (elim (levels_enough kids root depth) [
      | inl empty ↦
          let at_m : (queue kids root m).level ≡ [] = ap (λ f. f.level) (sym now) ∙ empty in
          elim (cases_lt m i) [
            | inl lt ↦ sym (queue_ended kids root m i (omega arith) at_m)
            | inr le ↦ queue_ended kids root i m le ended
          ]
      | inr enough ↦ queue_ended kids root i m (omega arith) ended
    ])

drop-not_nil : (files : List Met) (i : ℕ) → i < length files → drop i files ≡ [] → ⊥
drop-not_nil files i h e = omega (arith, length-drop i files, ap length e)

-- a file that waits in the queue is met by the levels, at the same place
pub waiting_is_met : (kids : Met → List Met) (root : Met) (depth i : ℕ) (files : List Met) → queue kids root i ≡ record { passed = take i files; level = drop i files } → i < length files → length files ≤ depth → (i < length (levels kids root depth).passed) × ((d : Met) → get_or (levels kids root depth).passed i d ≡ get_or files i d)
waiting_is_met kids root depth i files q inside few =
    let f : Front = levels kids root depth in
    let m : ℕ = length f.passed in
    let now : f ≡ queue kids root m = levels_are kids root depth in
    let waits : (queue kids root i).level ≡ drop i files = ap (λ f. f.level) q in
    let later : i < m =
    elim (levels_enough kids root depth) [
      | inl empty ↦
          elim (cases_lt i m) [
            | inl lt ↦ lt
            | inr le ↦
                let at_m : (queue kids root m).level ≡ [] = ap (λ f. f.level) (sym now) ∙ empty in
                let same : queue kids root i ≡ queue kids root m = queue_ended kids root m i le at_m in
                absurd (drop-not_nil files i inside (sym waits ∙ ap (λ f. f.level) same ∙ at_m))
          ]
      | inr enough ↦ omega arith
    ] in
    let kept = queue_keeps kids root i (m - i) in
    let all_i : met_by (queue kids root i) ≡ files = ap met_by q ∙ take-append-drop i files in
    let there : i + (m - i) ≡ m = omega arith in
    let all_m : f.passed ++ f.level ≡ files ++ kept.0 =
    ap met_by now ∙ ap (λ j. met_by (queue kids root j)) (sym there) ∙ kept.1 ∙ ap (λ l. l ++ kept.0) all_i in
    (later, λ d. sym (get_or_append_left f.passed f.level d i later) ∙ ap (λ l. get_or l i d) all_m ∙ get_or_append_left files kept.0 d i inside)

-- the first listed are new
new_step : (b : Bool) (seen : List ℕ) (m : Met) (ms : List Met) → is_among m.ino seen ≡ b → are_new seen (numbers (first_listed seen ms)) ≡ true → are_new (seen ++ m.ino ∷ []) (numbers (first_listed (seen ++ m.ino ∷ []) ms)) ≡ true → are_new seen (numbers (cond b (first_listed seen ms) (m ∷ first_listed (seen ++ m.ino ∷ []) ms))) ≡ true
new_step true seen m ms e p q = p
new_step false seen m ms e p q = and_from (not (is_among m.ino seen)) _ (ap not e) q

pub new-first_listed : (seen : List ℕ) (ms : List Met) → are_new seen (numbers (first_listed seen ms)) ≡ true
new-first_listed seen [] = refl
new-first_listed seen (m ∷ ms) =
    new_step (is_among m.ino seen) seen m ms refl (new-first_listed seen ms) (new-first_listed (seen ++ m.ino ∷ []) ms)

pass_distinct : (kids : Met → List Met) (done l : List Met) → are_new [] (numbers (done ++ l)) ≡ true → are_new [] (numbers (met_by (pass_on kids done l))) ≡ true
pass_distinct kids done [] h = h
pass_distinct kids done (m ∷ ms) h =
    let N : List ℕ = numbers (done ++ m ∷ ms) in
    let new : List Met = first_listed N (kids m) in
    let shape : (done ++ m ∷ []) ++ (ms ++ new) ≡ (done ++ m ∷ ms) ++ new = simp append_assoc in
    ap (λ l. are_new [] (numbers l)) shape
    ∙ ap (are_new []) (map-append (λ x. x.ino) (done ++ m ∷ ms) new)
    ∙ are_new-append [] N (numbers new)
    ∙ and_from (are_new [] N) (are_new N (numbers new)) h (new-first_listed N (kids m))

-- no number is met twice
pub queue_distinct : (kids : Met → List Met) (root : Met) (i : ℕ) → are_new [] (numbers (met_by (queue kids root i))) ≡ true
queue_distinct kids root zero = refl
queue_distinct kids root (suc i) =
    let f = queue kids root i in pass_distinct kids f.passed f.level (queue_distinct kids root i)

-- a number that stands in a list already adds nothing to it
among_twice : (n x : ℕ) (seen : List ℕ) (b : Bool) → is_among x seen ≡ true → (is_among n seen || b) ≡ (is_among n seen || (eqb x n || b))
among_twice n x seen b e =
    elim (cases_eq n x) [
      | inl same ↦
          let t : is_among n seen ≡ true = ap (λ k. is_among k seen) same ∙ e in
          or_left (is_among n seen) b t ∙ sym (or_left (is_among n seen) (eqb x n || b) t)
      | inr differ ↦ let f : eqb x n ≡ false = grind (arith, nat_tests) in rw f refl
    ]

-- the first listed bring each number that the others have
among-first_step : (b : Bool) (n : ℕ) (seen : List ℕ) (m : Met) (ms : List Met) → is_among m.ino seen ≡ b → is_among n (seen ++ numbers (first_listed seen ms)) ≡ is_among n (seen ++ numbers ms) → is_among n ((seen ++ m.ino ∷ []) ++ numbers (first_listed (seen ++ m.ino ∷ []) ms)) ≡ is_among n ((seen ++ m.ino ∷ []) ++ numbers ms) → is_among n (seen ++ numbers (cond b (first_listed seen ms) (m ∷ first_listed (seen ++ m.ino ∷ []) ms))) ≡ is_among n (seen ++ numbers (m ∷ ms))
among-first_step true n seen m ms e p q =
    let l : is_among n (seen ++ numbers ms) ≡ is_among n (seen ++ m.ino ∷ numbers ms) =
    is_among-append n seen (numbers ms) ∙ among_twice n m.ino seen (is_among n (numbers ms)) e ∙ sym (is_among-append n seen (m.ino ∷ numbers ms)) in
    p ∙ l
among-first_step false n seen m ms e p q =
    ap (is_among n) (sym (append_assoc seen (m.ino ∷ []) (numbers (first_listed (seen ++ m.ino ∷ []) ms)))) ∙ q ∙ ap (is_among n) (append_assoc seen (m.ino ∷ []) (numbers ms))

pub among-first_listed : (n : ℕ) (seen : List ℕ) (ms : List Met) → is_among n (seen ++ numbers (first_listed seen ms)) ≡ is_among n (seen ++ numbers ms)
among-first_listed n seen [] = refl
among-first_listed n seen (m ∷ ms) =
    among-first_step (is_among m.ino seen) n seen m ms refl (among-first_listed n seen ms) (among-first_listed n (seen ++ m.ino ∷ []) ms)
