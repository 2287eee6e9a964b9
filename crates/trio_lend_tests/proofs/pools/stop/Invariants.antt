use Rattle.trio_pool.specs.Passes.{IsOf}
use Rattle.trio_lend_tests.proofs.pools.stop.Given as goal

abbrev pub invariant-loop : goal.invariant-loop
invariant-loop g l = IsOf l.pool l.pass
