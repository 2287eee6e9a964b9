use Rattle.trio_ctl_tests.proofs.Leases.{alone_is_lent}
use Rattle.trio_ctl_tests.proofs.moves.taken.Goals as goal

pub returns-clause-lent : goal.returns-clause-lent
returns-clause-lent c = alone_is_lent c.lent_file.new.ctl.state 1 c.in_ok-lease.lease c.bundled.result c.bundled.ensures.writes c.in_ok-lease.ensures.lent
