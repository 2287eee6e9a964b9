-- A list in rising order of numbers, and what is made of each of its elements, with the same numbers.
use Rattle.trio_case.proofs.Words.{◌∙◌, ◌∷◌, ◌≡◌, Bool, List, [], ap, cond, false, inserted_by, map, refl, sorted_by, sym, true, ℕ}
use Rattle.std.specs.Prelude.{nat_le}

module _ {X Y : Type 0} (f : X → Y) (kx : X → ℕ) (ky : Y → ℕ) (same : (x : X) → ky (f x) ≡ kx x) where
  map-cond : (b : Bool) (xs ys : List X) → map f (cond b xs ys) ≡ cond b (map f xs) (map f ys)
  map-cond true xs ys = refl
  map-cond false xs ys = refl

  inserted-map : (x : X) (xs : List X) → map f (inserted_by kx x xs) ≡ inserted_by ky (f x) (map f xs)
  inserted-map x [] = refl
  inserted-map x (y ∷ ys) =
      map-cond (nat_le (kx x) (kx y)) (x ∷ (y ∷ ys)) (y ∷ inserted_by kx x ys) ∙ rw (same x, same y, sym (inserted-map x ys)) refl

  pub sorted-map : (xs : List X) → map f (sorted_by kx xs) ≡ sorted_by ky (map f xs)
  sorted-map [] = refl
  sorted-map (x ∷ xs) = inserted-map x (sorted_by kx xs) ∙ ap (inserted_by ky (f x)) (sorted-map xs)
