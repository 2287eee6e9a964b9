use Rattle.trio_walk.proofs.Walking.{OnWay}
use Rattle.trio_walk.proofs.walks.reach.Given as goal

abbrev pub invariant-loop-i : goal.invariant-loop-i
invariant-loop-i g l = OnWay g.D.Desk.called g.D.Desk.seen l.fn.desk l.fn.session l.writes l.names l.i l.desk l.session l.at
