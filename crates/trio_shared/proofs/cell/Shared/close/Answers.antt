use Rattle.trio_shared.proofs.Words.{◌≡◌, Controller, IsLibrary, [], made_by, origin_of, subst, sym, ℕ}
use mathlib.Core.List.{IsPrefix}
use Rattle.trio_turn.specs.Seats.{OfEach, first, seen}
use Rattle.trio_shared.proofs.Left.{no_other}
use Rattle.trio_shared.proofs.cell.Shared.close.Goals as goal

pub returns-in-Ok-clause-seen : goal.returns-in-Ok-clause-seen
returns-in-Ok-clause-seen c =
    subst (λ (x : Controller). OfEach (λ s. IsPrefix (seen s) x.log) c.args.seats.items) (sym c.into_ctl.ensures) c.in-Ok.ensures.seen

pub returns-in-Ok-clause-first : goal.returns-in-Ok-clause-first
returns-in-Ok-clause-first c =
    subst (λ (x : Controller). OfEach (λ s. origin_of x ≡ first s) c.args.seats.items) (sym c.into_ctl.ensures) c.in-Ok.ensures.first

pub returns-in-Ok-clause-no_other : goal.returns-in-Ok-clause-no_other
returns-in-Ok-clause-no_other c =
    let held = c.in-Ok.held in
    subst (λ (x : Controller). (l : ℕ) → (IsLibrary x.state.creds l → ⊥) → made_by l x.log ≡ []) (sym c.into_ctl.ensures)
    (no_other (origin_of held) held.log held.state c.is_left.ensures)
