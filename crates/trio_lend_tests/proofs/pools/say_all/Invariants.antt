use Rattle.std.proofs.Common.{◌≡◌}
use Rattle.trio_pool.specs.Passes.{number, IsOf}
use Rattle.trio_lend_tests.proofs.pools.say_all.Given as goal

abbrev pub invariant-loop-place : goal.invariant-loop-place
invariant-loop-place g l = IsOf l.pool l.pass × (number l.pass ≡ 0)
