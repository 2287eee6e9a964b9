use Rattle.trio_edit_laws.specs.Calls.{MayCall}
use Rattle.trio_bench.proofs.sessions.make_calls.Given as goal

abbrev pub invariant-loop-call : goal.invariant-loop-call
invariant-loop-call g l =
    (goal.iterator-loop-call g).can_next l.call-iterator × (goal.iterator-loop-call g).is_finite l.call-iterator
    × MayCall (g.D.Desk.seen l.desk) l.session
