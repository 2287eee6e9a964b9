-- Things by their numbers.
use Rattle.trio_lease.proofs.Words.{◌∷◌, ◌≡◌, List, None, Option, Some, [], inl, inr, is_some, refl, ℕ}
use Rattle.std.proofs.Common.{Bor, eqb}
use Rattle.std.specs.Prelude.{map}
use Rattle.std.specs.List.{find}
use Rattle.std.specs.Option.{option_copied}
use Rattle.std.proofs.lemmas.Bool.{cases_Bool}
use Rattle.trio_lists.specs.Lists.{is_among}

pub copied_some : {X : Type 0} (o : Option (Bor X)) → is_some o ≡ is_some (option_copied o)
copied_some None = refl
copied_some (Some x) = refl

-- a thing is found exactly where its number is among those of the things
pub found_among : {X : Type 0} (number : X → ℕ) (xs : List X) (n : ℕ) → is_some (find (λ x. eqb (number x) n) xs) ≡ is_among n (map number xs)
found_among number [] n = refl
found_among number (x ∷ xs) n =
    elim (cases_Bool (eqb (number x) n)) [
      | inl t ↦ rw t refl
      | inr f ↦ rw f (found_among number xs n)
    ]
