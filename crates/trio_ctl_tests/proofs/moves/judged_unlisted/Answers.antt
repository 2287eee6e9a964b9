use Rattle.trio_ctl_tests.proofs.Leases.{judged_is_lent}
use Rattle.trio_ctl_tests.proofs.moves.judged_unlisted.Goals as goal

pub returns : goal.returns
returns c = judged_is_lent c.begun_file.new.ctl.state c.in_ok-before.before c.in_ok-pending.pending c.weighed.result.case c.in_ok-before.ensures.lent c.in_ok-pending.ensures.lib c.in_ok-pending.ensures.lent c.weighed.ensures
