-- The first things of their numbers, and steps through the numbers that are named.
use Rattle.trio_raw.proofs.Words.{◌&&◌, ◌++◌, ◌+◌, ◌<◌, ◌∙◌, ◌∷◌, ◌≡◌, ◌≤◌, Bool, In, List, None, Some, [], ap, append_assoc, are_new, are_new-first, arith, cases_Bool, cond, cons_option, drop, eqb, eqb-true, false, find, inl, inr, length, list_all, ltb, ltb-true, named, ne_eqb, position, refl, slice_get, subst, suc, sym, true, without, without_all, ℕ}
use Rattle.std.proofs.Common.{get_or}
use Rattle.std.specs.List.{position_or_len, remove}
use Rattle.std.proofs.lemmas.Bool.{ltb-false}
use Rattle.std.proofs.lemmas.List.{drop_more}
use Rattle.std.proofs.lemmas.List.Folds.{find_at}
use Rattle.std.proofs.lemmas.Option.{slice_get-get_or, slice_get_past}

-- ---- the first that passes a test

-- the place is that of the first
pub position_is : {X : Type 0} (p : X → Bool) (xs : List X) (i : ℕ) → position p xs ≡ Some i → (i ≡ position_or_len p xs) × (i < length xs)
position_is p xs i e =
    elim (cases_Bool (ltb (position_or_len p xs) (length xs))) [
      | inl t ↦
          (let same : Some (position_or_len p xs) ≡ Some i = rw t at e in
          let j : position_or_len p xs ≡ i = cc same in
          (sym j, subst (λ k. k < length xs) j (ltb-true (position_or_len p xs) (length xs) t)))
      | inr f ↦ (let wrong : None ≡ Some i = rw f at e in absurd cc)
    ]

pub position_none : {X : Type 0} (p : X → Bool) (xs : List X) → position p xs ≡ None → length xs ≤ position_or_len p xs
position_none p xs e =
    elim (cases_Bool (ltb (position_or_len p xs) (length xs))) [
      | inl t ↦ (let wrong : Some (position_or_len p xs) ≡ None = rw t at e in absurd cc)
      | inr f ↦ ltb-false (position_or_len p xs) (length xs) f
    ]

-- ---- the first of a number

-- the list without it is the list with its place removed
pub without-remove : {X : Type 0} (number : X → ℕ) (xs : List X) (n : ℕ) → position_or_len (λ x. eqb (number x) n) xs < length xs → without number xs n ≡ remove xs (position_or_len (λ x. eqb (number x) n) xs)
without-remove number [] n e = absurd (omega arith)
without-remove number (x ∷ xs) n e =
    elim (cases_Bool (eqb (number x) n)) [
      | inl t ↦ rw t refl
      | inr f ↦
          (let k : ℕ = position_or_len (λ x. eqb (number x) n) xs in
          let here : 1 + k < suc (length xs) = rw f at e in
          let ih : without number xs n ≡ remove xs k = without-remove number xs n (omega arith) in
          let s : 1 + k ≡ suc k = omega arith in
          rw f (ap (λ l. x ∷ l) ih ∙ ap (remove (x ∷ xs)) (sym s)))
    ]

-- the same by the place that a search answered
pub place_missing : {X : Type 0} (number : X → ℕ) (xs : List X) (n : ℕ) → position (λ x. eqb (number x) n) xs ≡ None → find (λ x. eqb (number x) n) xs ≡ None
place_missing number xs n none =
    find_at (λ x. eqb (number x) n) xs ∙ slice_get_past xs (position_or_len (λ x. eqb (number x) n) xs) (position_none (λ x. eqb (number x) n) xs none)

pub place_found : {X : Type 0} (number : X → ℕ) (xs : List X) (n i : ℕ) (x : X) → position (λ x. eqb (number x) n) xs ≡ Some i → x ≡ get_or xs i x → find (λ x. eqb (number x) n) xs ≡ Some x
place_found number xs n i x e r =
    let p = position_is (λ x. eqb (number x) n) xs i e in
    find_at (λ x. eqb (number x) n) xs ∙ ap (slice_get xs) (sym p.0) ∙ slice_get-get_or xs i x p.1 ∙ ap Some (sym r)

pub place_rest : {X : Type 0} (number : X → ℕ) (xs : List X) (n i : ℕ) → position (λ x. eqb (number x) n) xs ≡ Some i → remove xs i ≡ without number xs n
place_rest number xs n i e =
    let p = position_is (λ x. eqb (number x) n) xs i e in
    ap (remove xs) p.0 ∙ sym (without-remove number xs n (subst (λ k. k < length xs) p.0 p.1))

-- ---- without a first of another number

module _ {X : Type 0} (number : X → ℕ) where
  pub find-without : (xs : List X) (n m : ℕ) → (n ≡ m → ⊥) → find (λ x. eqb (number x) n) (without number xs m) ≡ find (λ x. eqb (number x) n) xs
  find-without [] n m d = refl
  find-without (x ∷ xs) n m d =
      elim (cases_Bool (eqb (number x) m)) [
        | inl t ↦
            (let other : eqb (number x) n ≡ false = ne_eqb (number x) n (λ e. d (sym e ∙ eqb-true (number x) m t)) in
            rw t (rw other refl))
        | inr f ↦ rw f (ap (λ o. cond (eqb (number x) n) (Some x) o) (find-without xs n m d))
      ]

  pub named-without : (xs : List X) (m : ℕ) (names : List ℕ) → (In m names → ⊥) → named number (without number xs m) names ≡ named number xs names
  named-without xs m [] d = refl
  named-without xs m (n ∷ names) d =
      ap (λ o. cons_option o (named number (without number xs m) names)) (find-without xs n m (λ e. d (inl (sym e))))
      ∙ ap (cons_option (find (λ x. eqb (number x) n) xs)) (named-without xs m names (λ i. d (inr i)))

  -- what is named is the first, where there is one, and then the others, found without it
  pub named-first : (xs : List X) (n : ℕ) (names : List ℕ) → are_new [] (n ∷ names) ≡ true → named number xs (n ∷ names) ≡ cons_option (find (λ x. eqb (number x) n) xs) (named number (without number xs n) names)
  named-first xs n names once =
      ap (cons_option (find (λ x. eqb (number x) n) xs)) (sym (named-without xs n names (are_new-first n names once).0))

-- ---- steps through the numbers that are named

-- how many are left without a first of a number, where there is one
without-length : {X : Type 0} (number : X → ℕ) (xs : List X) (n : ℕ) (x : X) → find (λ y. eqb (number y) n) xs ≡ Some x → suc (length (without number xs n)) ≡ length xs
without-length number [] n x e = absurd cc
without-length number (y ∷ ys) n x e =
    elim (cases_Bool (eqb (number y) n)) [
      | inl t ↦ rw t refl
      | inr f ↦
          (let later : find (λ z. eqb (number z) n) ys ≡ Some x = rw f at e in
          rw f (ap suc (without-length number ys n x later)))
    ]

-- and all where there is none
pub without-same : {X : Type 0} (number : X → ℕ) (xs : List X) (n : ℕ) → find (λ y. eqb (number y) n) xs ≡ None → without number xs n ≡ xs
without-same number [] n e = refl
without-same number (y ∷ ys) n e =
    elim (cases_Bool (eqb (number y) n)) [
      | inl t ↦ (let wrong : Some y ≡ None = rw t at e in absurd (cc wrong))
      | inr f ↦
          (let later : find (λ z. eqb (number z) n) ys ≡ None = rw f at e in
          rw f (ap (λ l. y ∷ l) (without-same number ys n later)))
    ]

pub removed_count : {X : Type 0} (number : X → ℕ) (xs after : List X) (names : List ℕ) (i : ℕ) → after ≡ without number xs (get_or names i 0) → (x : X) → find (λ y. eqb (number y) (get_or names i 0)) xs ≡ Some x → suc (length after) ≡ length xs
removed_count number xs after names i rest x found = ap (λ l. suc (length l)) rest ∙ without-length number xs (get_or names i 0) x found

pub kept_count : {X : Type 0} (number : X → ℕ) (xs after : List X) (names : List ℕ) (i : ℕ) → after ≡ without number xs (get_or names i 0) → find (λ y. eqb (number y) (get_or names i 0)) xs ≡ None → length after ≡ length xs
kept_count number xs after names i rest missing = ap length rest ∙ ap length (without-same number xs (get_or names i 0) missing)

-- a number that passes a test
pub all_more : (p : ℕ → Bool) (names : List ℕ) (i : ℕ) → i < length names → list_all p (drop i names) ≡ list_all p names → p (get_or names i 0) ≡ true → list_all p (drop (i + 1) names) ≡ list_all p names
all_more p names i within same pass =
    ap (λ b. b && list_all p (drop (i + 1) names)) (sym pass) ∙ ap (list_all p) (sym (drop_more names i 0 within)) ∙ same

-- one that fails it
pub all_fails : (p : ℕ → Bool) (names : List ℕ) (i : ℕ) → i < length names → list_all p (drop i names) ≡ list_all p names → p (get_or names i 0) ≡ false → list_all p names ≡ false
all_fails p names i within same fail =
    sym same ∙ ap (list_all p) (drop_more names i 0 within) ∙ ap (λ b. b && list_all p (drop (i + 1) names)) fail

module _ {X : Type 0} (number : X → ℕ) (xs after : List X) (names : List ℕ) (i : ℕ) (within : i < length names) (once : are_new [] (drop i names) ≡ true) (rest : after ≡ without number xs (get_or names i 0)) where
  now_once : are_new [] (get_or names i 0 ∷ drop (i + 1) names) ≡ true
  now_once = ap (are_new []) (sym (drop_more names i 0 within)) ∙ once

  pub once_more : are_new [] (drop (i + 1) names) ≡ true
  once_more = (are_new-first (get_or names i 0) (drop (i + 1) names) now_once).1

  pub left_more : without_all number after (drop (i + 1) names) ≡ without_all number xs (drop i names)
  left_more = ap (λ l. without_all number l (drop (i + 1) names)) rest ∙ ap (without_all number xs) (sym (drop_more names i 0 within))

  named_more : named number xs (drop i names) ≡ cons_option (find (λ y. eqb (number y) (get_or names i 0)) xs) (named number after (drop (i + 1) names))
  named_more =
      ap (named number xs) (drop_more names i 0 within)
      ∙ named-first number xs (get_or names i 0) (drop (i + 1) names) now_once
      ∙ ap (λ l. cons_option (find (λ y. eqb (number y) (get_or names i 0)) xs) (named number l (drop (i + 1) names))) (sym rest)

  -- one that isn't there
  pub passed_more : find (λ y. eqb (number y) (get_or names i 0)) xs ≡ None → named number after (drop (i + 1) names) ≡ named number xs (drop i names)
  passed_more missing = sym (named_more ∙ ap (λ o. cons_option o (named number after (drop (i + 1) names))) missing)

  -- one that is moved
  pub moved_more : (before now : List X) (x : X) → find (λ y. eqb (number y) (get_or names i 0)) xs ≡ Some x → now ≡ before ++ x ∷ [] → now ++ named number after (drop (i + 1) names) ≡ before ++ named number xs (drop i names)
  moved_more before now x found is =
      ap (λ l. l ++ named number after (drop (i + 1) names)) is
      ∙ append_assoc before (x ∷ []) (named number after (drop (i + 1) names))
      ∙ ap (λ l. before ++ l) (sym (named_more ∙ ap (λ o. cons_option o (named number after (drop (i + 1) names))) found))
