use Rattle.std.proofs.Common.{length, refl, ap, ◌∙◌}
use Rattle.trio_state.specs.State.{State}
use Rattle.trio_ctl_tests.proofs.Leases.{begun_is_lent}
use Rattle.trio_ctl_tests.proofs.moves.begun_file.Goals as goal

pub returns-clause-two : goal.returns-clause-two
returns-clause-two c = ap (λ (s : State). length s.creds) c.begun.ensures.state ∙ c.in_ok-bundle.ensures.two

pub returns-clause-lent : goal.returns-clause-lent
returns-clause-lent c = begun_is_lent c.taken_file.new.ctl.state c.begun.new.ctl.state c.in_ok-bundle.bundle c.begun.result c.begun.ensures.state c.begun.ensures.bundle (c.begun.ensures.lib refl) c.in_ok-bundle.ensures.lent
