use Rattle.trio_ctl_tests.proofs.Leases.{touched_will_do}
use Rattle.trio_ctl_tests.proofs.moves.ends_so.Goals as goal

pub ended-requires : goal.ended-requires
ended-requires c = touched_will_do c.args.ctl.now.state c.args.judged.case.lib.0 c.args.judged.case.bundle c.requires
