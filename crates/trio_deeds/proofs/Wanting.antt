-- An allotment is asked for where any page or number is wanted.
use Rattle.std.proofs.Common.{◌≡◌, ◌⊎◌, ℕ, Bool, true, false, cond, eqb, [], ◌∷◌, refl, ap, ◌∙◌, inl, inr}
use Rattle.std.specs.Prelude.{◌&&◌}
use Rattle.std.proofs.lemmas.Bool.{ne_eqb}
use Rattle.trio_desk.specs.Call.{Allot}
use Rattle.trio_session.specs.Asked.{allot_asks}

pub some_asks : (pages numbers : ℕ) → (pages ≡ 0 → ⊥) ⊎ (numbers ≡ 0 → ⊥) → allot_asks pages numbers ≡ Allot pages numbers ∷ []
some_asks pages numbers (inl some) = ap (λ t. cond (t && eqb numbers 0) [] (Allot pages numbers ∷ [])) (ne_eqb pages 0 some)
some_asks pages numbers (inr some) = ap (λ t. cond (eqb pages 0 && t) [] (Allot pages numbers ∷ [])) (ne_eqb numbers 0 some) ∙ by (eqb pages 0)
  where
    by : (t : Bool) → cond (t && false) [] (Allot pages numbers ∷ []) ≡ Allot pages numbers ∷ []
    by true = refl
    by false = refl
