use Rattle.std.proofs.Common.{subst, sym}
use Rattle.trio_case.specs.Cases.{CaseShown}
use Rattle.trio_ctl_tests.specs.Leases.{AreAllTouched}
use Rattle.trio_ctl_tests.proofs.moves.weighed_marked.Goals as goal

pub returns : goal.returns
returns c = subst (λ (k : CaseShown). AreAllTouched k.bundle.writes) (sym c.weighed.ensures) c.requires
