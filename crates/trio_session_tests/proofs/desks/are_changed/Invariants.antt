use Rattle.trio_session_tests.proofs.Words.{MayCall}
use Rattle.trio_session_tests.proofs.desks.are_changed.Given as goal

abbrev pub invariant-loop-number : goal.invariant-loop-number
invariant-loop-number g l = MayCall (g.D.Desk.seen l.desk) l.session
