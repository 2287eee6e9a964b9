use Rattle.std.proofs.Common.{length, ap, subst, sym, ◌∙◌}
use Rattle.trio_state.specs.State.{State}
use Rattle.trio_ctl.specs.HandedIn.{WereLent}
use Rattle.trio_ctl_tests.proofs.calls.is_accepted_with_room.Goals as goal

pub is_accepted-requires-clause-two : goal.is_accepted-requires-clause-two
is_accepted-requires-clause-two c = ap (λ (s : State). length s.creds) c.has_room.ensures ∙ c.in_ok-bundle.ensures.two

pub is_accepted-requires-clause-lent : goal.is_accepted-requires-clause-lent
is_accepted-requires-clause-lent c =
    subst (λ (s : State). WereLent s 1 c.in_ok-bundle.bundle.writes) (sym c.has_room.ensures) c.in_ok-bundle.ensures.lent
