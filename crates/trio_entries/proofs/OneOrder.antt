-- Elements of distinct numbers have one order that rises.
use Rattle.trio_entries.proofs.Words.{◌∙◌, ◌∷◌, ◌≡◌, Bool, In, IsPermutation, List, [], ap, are_new, cond, false, inl, inr, map, nat_le, refl, sorted_by, sorted_in, sym, true, ℕ}
use Rattle.std.specs.List.Sorted.{IsNonDecreasingBy}
use Rattle.trio_lists.specs.Sorting.{inserted_by}
use Rattle.trio_lists.proofs.Gathered.{one_keyed}
use Rattle.trio_case.specs.Order.{in_order}
use Rattle.trio_case.proofs.Unstable.{permuted_in, sorted_numbers}

module _ {X : Type 0} (key : X → ℕ) where
  -- what has the same numbers is the same, where each number has one element
  same_numbers : (all xs ys : List X) → are_new [] (map key all) ≡ true → map key xs ≡ map key ys → ((x : X) → In x xs → In x all) → ((y : X) → In y ys → In y all) → xs ≡ ys
  same_numbers all [] [] new e p q = refl
  same_numbers all [] (y ∷ ys) new e p q = absurd cc
  same_numbers all (x ∷ xs) [] new e p q = absurd cc
  same_numbers all (x ∷ xs) (y ∷ ys) new e p q =
      let first : key x ≡ key y = cc in
      let rest : map key xs ≡ map key ys = cc in
      let same : x ≡ y = one_keyed key all x y new (p x (inl refl)) (q y (inl refl)) first in
      ap (λ z. z ∷ xs) same ∙ ap (λ zs. y ∷ zs) (same_numbers all xs ys new rest (λ z i. p z (inr i)) (λ z i. q z (inr i)))

  numbers_inserted : (x : X) (xs : List X) → map key (inserted_by key x xs) ≡ inserted_by (λ n. n) (key x) (map key xs)
  numbers_inserted x [] = refl
  numbers_inserted x (y ∷ ys) = by (nat_le (key x) (key y)) (numbers_inserted x ys)
    where
      by : (b : Bool) → map key (inserted_by key x ys) ≡ inserted_by (λ n. n) (key x) (map key ys) → map key (cond b (x ∷ (y ∷ ys)) (y ∷ inserted_by key x ys)) ≡ cond b (key x ∷ (key y ∷ map key ys)) (key y ∷ inserted_by (λ n. n) (key x) (map key ys))
      by true h = refl
      by false h = ap (λ ns. key y ∷ ns) h

  numbers_sorted : (xs : List X) → map key (sorted_by key xs) ≡ in_order (map key xs)
  numbers_sorted [] = refl
  numbers_sorted (x ∷ xs) = numbers_inserted x (sorted_by key xs) ∙ ap (inserted_by (λ n. n) (key x)) (numbers_sorted xs)

  -- any sort by distinct numbers is the stable one
  pub one_order : (xs ys : List X) → are_new [] (map key xs) ≡ true → IsPermutation xs ys → IsNonDecreasingBy key ys → ys ≡ sorted_by key xs
  one_order xs ys new moved up =
      same_numbers xs ys (sorted_by key xs) new (sorted_numbers key xs ys moved up ∙ sym (numbers_sorted xs)) (permuted_in xs ys moved) (λ x i. sorted_in key x xs i)
