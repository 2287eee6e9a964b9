use Rattle.trio_shared_tests.proofs.Words.{PlaysOn}
use Rattle.trio_shared_tests.proofs.at_once.borrows.Given as goal

abbrev pub invariant-loop : goal.invariant-loop
invariant-loop g l = PlaysOn l.shared l.fn.seat l.seat l.raw.has
