-- The laws of picks.
use Rattle.trio_survey.proofs.Words.{◌≡◌, None, Option, ap, get_or, refl, suc, zero, ℕ}
use Rattle.std.specs.Prelude.{replicate}
use mathlib.Core.Path.{fun_ext}
use Rattle.trio_survey.specs.declared.picks.Picked.{Picked}
use Rattle.trio_survey.specs.Picks.{body_picked}
use Rattle.trio_survey.specs.PickLaws.{NothingPicked, PicksByBody}

abbrev nothing : Option Picked
nothing = None

none_at : (n i : ℕ) → get_or (replicate n nothing) i None ≡ None
none_at zero i = refl
none_at (suc n) zero = refl
none_at (suc n) (suc i) = none_at n i

pub picks_by_body : PicksByBody
picks_by_body picks pick same =
    fun_ext (λ directory. fun_ext (λ page. fun_ext (λ slot. fun_ext (λ ino. fun_ext (λ bytes. same directory page slot ino bytes)))))

pub nothing_picked : NothingPicked
nothing_picked n =
    fun_ext (λ directory. fun_ext (λ page. fun_ext (λ slot. fun_ext (λ ino. fun_ext (λ bytes.
    ap (λ o. body_picked o directory page slot bytes) (none_at n ino))))))
