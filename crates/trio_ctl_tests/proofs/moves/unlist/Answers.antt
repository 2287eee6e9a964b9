use Rattle.trio_ctl_tests.proofs.Leases.{bytes_leave_lent}
use Rattle.trio_ctl_tests.proofs.moves.unlist.Goals as goal

pub returns-in-Some-clause-lent : goal.returns-in-Some-clause-lent
returns-in-Some-clause-lent c = λ _. bytes_leave_lent c.args.pending.now.bundle (record { 0 = 7 }) c.put_u64.new.self
