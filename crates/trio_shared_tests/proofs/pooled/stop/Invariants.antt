use Rattle.trio_pool.specs.Passes.{IsOf}
use Rattle.trio_shared_tests.proofs.pooled.stop.Given as goal

abbrev pub invariant-loop : goal.invariant-loop
invariant-loop g l = IsOf l.pool l.pass
