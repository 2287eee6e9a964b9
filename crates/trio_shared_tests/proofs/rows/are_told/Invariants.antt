use Rattle.trio_shared_tests.proofs.Words.{PlaysOn}
use Rattle.trio_shared_tests.proofs.rows.are_told.Given as goal

abbrev pub invariant-loop-step : goal.invariant-loop-step
invariant-loop-step g l = PlaysOn l.shared l.fn.one l.one l.ones.has × PlaysOn l.shared l.fn.two l.two l.twos.has
