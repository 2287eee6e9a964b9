use Rattle.trio_ctl_tests.proofs.Outs.{read_is_out}
use Rattle.trio_ctl_tests.proofs.hand_in.read_lease.Goals as goal

pub returns-in-Ok : goal.returns-in-Ok
returns-in-Ok g c = read_is_out (g.D.Desk.seen c.args.desk.now) (g.D.Desk.seen c.grant.new.self) c.args.ino c.in-Ok.lease c.read_of.result c.in-Ok.ensures.seen c.read_of.ensures
