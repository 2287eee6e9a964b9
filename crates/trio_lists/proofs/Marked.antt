-- Marks over numbers against the list of the numbers that are marked.
use Rattle.std.proofs.Common.{◌≡◌, ℕ, ◌+◌, ◌<◌, Bool, true, false, not, ◌&&◌, ◌||◌, eqb, ltb, List, [], ◌∷◌, ◌++◌, length, get_or, set, take, sym, refl, ap, ◌∙◌, inl, inr, arith, append_assoc}
use Rattle.std.proofs.lemmas.List.{append-nil, take_more, get_or-set_same, get_or-set_other, length-set}
use Rattle.std.proofs.lemmas.List.Folds.{list_any-append, list_all_at}
use Rattle.std.proofs.lemmas.Bool.{cases_eq, cases_lt, or_right, false≢true}
use Rattle.std.proofs.lemmas.Bool.Decides.{nat_tests}
use Rattle.trio_lists.specs.Lists.{is_among, are_new}
use Rattle.trio_lists.specs.Marked.{MarksJust, all_below}

or-false : (a : Bool) → (a || false) ≡ a
or-false true = refl
or-false false = refl

and_assoc : (a b c : Bool) → ((a && b) && c) ≡ (a && (b && c))
and_assoc true b c = refl
and_assoc false b c = refl

pub and-true : (a : Bool) → (a && true) ≡ a
and-true true = refl
and-true false = refl

pub and-false : (a : Bool) → (a && false) ≡ false
and-false true = refl
and-false false = refl

pub is_among-append : (n : ℕ) (xs ys : List ℕ) → is_among n (xs ++ ys) ≡ (is_among n xs || is_among n ys)
is_among-append n xs ys = list_any-append (λ x. eqb x n) xs ys

pub is_among-push : (n x : ℕ) (xs : List ℕ) → is_among n (xs ++ x ∷ []) ≡ (is_among n xs || eqb x n)
is_among-push n x xs = is_among-append n xs (x ∷ []) ∙ ap (λ b. is_among n xs || b) (or-false (eqb x n))

pub are_new-append : (seen xs ys : List ℕ) → are_new seen (xs ++ ys) ≡ (are_new seen xs && are_new (seen ++ xs) ys)
are_new-append seen [] ys = ap (λ s. are_new s ys) (sym (append-nil seen))
are_new-append seen (x ∷ xs) ys =
    ap (λ b. not (is_among x seen) && b) (are_new-append (seen ++ x ∷ []) xs ys ∙ ap (λ s. are_new (seen ++ x ∷ []) xs && are_new s ys) (append_assoc seen (x ∷ []) xs))
    ∙ sym (and_assoc (not (is_among x seen)) (are_new (seen ++ x ∷ []) xs) (are_new (seen ++ x ∷ xs) ys))

pub are_new-push : (seen xs : List ℕ) (x : ℕ) → are_new seen (xs ++ x ∷ []) ≡ (are_new seen xs && not (is_among x (seen ++ xs)))
are_new-push seen xs x =
    are_new-append seen xs (x ∷ []) ∙ ap (λ b. are_new seen xs && b) (and-true (not (is_among x (seen ++ xs))))

-- a number that is marked
pub MarksJust-set : (marks : List Bool) (these : List ℕ) (x : ℕ) → x < length marks → MarksJust marks these → MarksJust (set marks x true) (these ++ x ∷ [])
MarksJust-set marks these x h m n l =
    elim (cases_eq n x) [
      | inl same ↦
          let e1 : get_or (set marks x true) n false ≡ true =
          ap (λ k. get_or (set marks x true) k false) same ∙ get_or-set_same marks x true false h in
          let e2 : eqb x n ≡ true = grind (arith, nat_tests) in
          e1 ∙ sym (is_among-push n x these ∙ or_right (is_among n these) (eqb x n) e2)
      | inr differ ↦
          let l' : n < length marks = omega (arith, length-set marks x true) in
          let e2 : eqb x n ≡ false = grind (arith, nat_tests) in
          get_or-set_other marks x n true false differ ∙ m n l' ∙ sym (is_among-push n x these ∙ ap (λ b. is_among n these || b) e2 ∙ or-false (is_among n these))
    ]

-- one number more of a list
pub MarksJust-more : (marks : List Bool) (before these : List ℕ) (i : ℕ) → i < length these → get_or these i 0 < length marks → MarksJust marks (before ++ take i these) → MarksJust (set marks (get_or these i 0) true) (before ++ take (i + 1) these)
MarksJust-more marks before these i h k m =
    let e : before ++ take (i + 1) these ≡ (before ++ take i these) ++ get_or these i 0 ∷ [] =
    ap (λ l. before ++ l) (take_more these i 0 h) ∙ sym (append_assoc before (take i these) (get_or these i 0 ∷ [])) in
    rw e (MarksJust-set marks (before ++ take i these) (get_or these i 0) k m)

pub are_new-more : (before these : List ℕ) (i : ℕ) → i < length these → are_new before (take (i + 1) these) ≡ (are_new before (take i these) && not (is_among (get_or these i 0) (before ++ take i these)))
are_new-more before these i h =
    ap (are_new before) (take_more these i 0 h) ∙ are_new-push before (take i these) (get_or these i 0)

pub below_at : (n : ℕ) (these : List ℕ) (i : ℕ) → i < length these → all_below n these ≡ true → get_or these i 0 < n
below_at n these i h a =
    elim (cases_lt (get_or these i 0) n) [
      | inl l ↦ l
      | inr g ↦
          let e : ltb (get_or these i 0) n ≡ false = grind (arith, nat_tests) in
          absurd (false≢true (sym (list_all_at (λ x. ltb x n) these i 0 h e) ∙ a))
    ]
