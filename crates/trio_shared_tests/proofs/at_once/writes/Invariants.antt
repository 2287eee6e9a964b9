use Rattle.trio_shared_tests.proofs.Words.{WritesOn}
use Rattle.trio_shared_tests.proofs.at_once.writes.Given as goal

abbrev pub invariant-loop-time : goal.invariant-loop-time
invariant-loop-time l = WritesOn l.fn.raw.has l.raw.has
