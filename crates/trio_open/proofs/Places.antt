-- Lists of which one has, place by place, what is made of the other.
use Rattle.trio_open.proofs.Words.{◌++◌, ◌+◌, ◌∙◌, ◌∷◌, ◌≡◌, List, [], ap, map, option_map, refl, slice_get, suc, sym, take, zero, ℕ}
use Rattle.std.proofs.Common.{add-one}
use Rattle.std.specs.Option.{option_to_list}

taken : {Z : Type 0} (zs : List Z) (i : ℕ) → take (suc i) zs ≡ take i zs ++ option_to_list (slice_get zs i)
taken [] zero = refl
taken [] (suc i) = refl
taken (z ∷ zs) zero = refl
taken (z ∷ zs) (suc i) = ap (λ l. z ∷ l) (taken zs i)

module _ {X Y : Type 0} (f : X → Y) where
  mapped : (xs : List X) (i : ℕ) → map f (take (suc i) xs) ≡ map f (take i xs) ++ option_to_list (option_map f (slice_get xs i))
  mapped [] zero = refl
  mapped [] (suc i) = refl
  mapped (x ∷ xs) zero = refl
  mapped (x ∷ xs) (suc i) = ap (λ l. f x ∷ l) (mapped xs i)

  -- one place more
  pub same_more : (xs : List X) (ys : List Y) (i : ℕ) → slice_get ys i ≡ option_map f (slice_get xs i) → take i ys ≡ map f (take i xs) → take (i + 1) ys ≡ map f (take (i + 1) xs)
  same_more xs ys i here before =
      rw add-one (taken ys i ∙ ap (λ l. l ++ option_to_list (slice_get ys i)) before ∙ ap (λ o. map f (take i xs) ++ option_to_list o) here ∙ sym (mapped xs i))
