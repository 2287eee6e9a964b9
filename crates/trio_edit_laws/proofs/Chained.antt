-- Numbers that the elements of a list have, each once, where one element is replaced.
use Rattle.trio_edit_laws.proofs.Words.{◌++◌, ◌∙◌, ◌∷◌, ◌≡◌, ◌⊎◌, In, In-cases, In-flat, In-left, In-right, List, Some, [], and_from, and_parts, ap, are_new, are_new-append, are_new-before, are_new-fewer, arith, flat_map, inl, inr, new_beside, refl, slice_get, slice_get-In, slice_set, subst, suc, sym, true, zero, ℕ}

-- numbers of two lists differ, and those of one are none of the other
pub record AreApart (xs ys : List ℕ) : Type 0 where
  pub left : are_new [] xs ≡ true
  pub right : are_new [] ys ≡ true
  pub apart : (n : ℕ) → In n xs → In n ys → ⊥

pub apart_from : (xs ys : List ℕ) → are_new [] (xs ++ ys) ≡ true → AreApart xs ys
apart_from xs ys new = search (arith, and_parts, are_new-append, are_new-fewer, are_new-before)

pub apart_to : (xs ys : List ℕ) → AreApart xs ys → are_new [] (xs ++ ys) ≡ true
apart_to xs ys a = are_new-append [] xs ys ∙ and_from (are_new [] xs) (are_new xs ys) a.left (new_beside xs ys a.right (λ n i j. a.apart n j i))

module _ {X : Type 0} (g : X → List ℕ) where
  -- the numbers of one element differ
  pub place_new : (xs : List X) (i : ℕ) (x : X) → are_new [] (flat_map g xs) ≡ true → slice_get xs i ≡ Some x → are_new [] (g x) ≡ true
  place_new [] i x new e = absurd (slice_get-In [] i x e)
  place_new (z ∷ zs) zero x new e = search (arith, slice_get-In, apart_from)
  place_new (z ∷ zs) (suc i) x new e = place_new zs i x (apart_from (g z) (flat_map g zs) new).right e

  -- elements at two places have no number in common
  pub places_apart : (xs : List X) (i j : ℕ) (x y : X) (n : ℕ) → are_new [] (flat_map g xs) ≡ true → slice_get xs i ≡ Some x → slice_get xs j ≡ Some y → (i ≡ j → ⊥) → In n (g x) → In n (g y) → ⊥
  places_apart [] i j x y n new ei ej d a b = search (arith, slice_get-In, apart_from, In-flat)
  places_apart (z ∷ zs) zero zero x y n new ei ej d a b = absurd (d refl)
  places_apart (z ∷ zs) zero (suc j) x y n new ei ej d a b =
      let same : Some z ≡ Some x = ei in
      (apart_from (g z) (flat_map g zs) new).apart n (subst (λ w. In n (g w)) (sym (let t : z ≡ x = cc same in t)) a) (In-flat g y n zs (slice_get-In zs j y ej) b)
  places_apart (z ∷ zs) (suc i) zero x y n new ei ej d a b =
      let same : Some z ≡ Some y = ej in
      (apart_from (g z) (flat_map g zs) new).apart n (subst (λ w. In n (g w)) (sym (let t : z ≡ y = cc same in t)) b) (In-flat g x n zs (slice_get-In zs i x ei) a)
  places_apart (z ∷ zs) (suc i) (suc j) x y n new ei ej d a b =
      places_apart zs i j x y n (apart_from (g z) (flat_map g zs) new).right ei ej (λ e. d (ap suc e)) a b

  -- a number of the list with another element is of that element or of the others
  pub set_from : (xs : List X) (i : ℕ) (y : X) (n : ℕ) → In n (flat_map g (slice_set xs i y)) → In n (g y) ⊎ In n (flat_map g xs)
  set_from [] i y n k = inr k
  set_from (z ∷ zs) zero y n k =
      elim (In-cases n (g y) (flat_map g zs) k) [ inl a ↦ inl a | inr b ↦ inr (In-right n (g z) (flat_map g zs) b) ]
  set_from (z ∷ zs) (suc i) y n k =
      elim (In-cases n (g z) (flat_map g (slice_set zs i y)) k) [
        | inl a ↦ inr (In-left n (g z) (flat_map g zs) a)
        | inr b ↦ elim (set_from zs i y n b) [ inl c ↦ inl c | inr c ↦ inr (In-right n (g z) (flat_map g zs) c) ]
      ]

  -- each number stands once still, where those of the element are of the one that it replaces, or of none
  pub set_new : (xs : List X) (i : ℕ) (x y : X) → are_new [] (flat_map g xs) ≡ true → slice_get xs i ≡ Some x → are_new [] (g y) ≡ true
      → ((n : ℕ) → In n (g y) → In n (g x) ⊎ (In n (flat_map g xs) → ⊥)) → are_new [] (flat_map g (slice_set xs i y)) ≡ true
  set_new [] i x y new e own from = new
  set_new (z ∷ zs) zero x y new e own from =
      let a = apart_from (g z) (flat_map g zs) new in
      let both : Some z ≡ Some x = e in
      let same : z ≡ x = cc both in
      apart_to (g y) (flat_map g zs) (record {
        left = own;
        right = a.right;
        apart = λ n i j. elim (from n i) [
          | inl k ↦ a.apart n (subst (λ w. In n (g w)) (sym same) k) j
          | inr k ↦ k (In-right n (g z) (flat_map g zs) j)
        ];
      })
  set_new (z ∷ zs) (suc i) x y new e own from =
      let a = apart_from (g z) (flat_map g zs) new in
      let from' : (n : ℕ) → In n (g y) → In n (g x) ⊎ (In n (flat_map g zs) → ⊥) =
      λ n k. elim (from n k) [ inl l ↦ inl l | inr l ↦ inr (λ j. l (In-right n (g z) (flat_map g zs) j)) ] in
      apart_to (g z) (flat_map g (slice_set zs i y)) (record {
        left = a.left;
        right = set_new zs i x y a.right e own from';
        apart = λ n k j. elim (set_from zs i y n j) [
          | inr l ↦ a.apart n k l
          | inl l ↦ elim (from n l) [
            | inl q ↦ a.apart n k (In-flat g x n zs (slice_get-In zs i x e) q)
            | inr q ↦ q (In-left n (g z) (flat_map g zs) k)
          ]
        ];
      })
