use Rattle.trio_runner.proofs.Words.{◌≡◌}
use Rattle.trio_pool.specs.Passes.{IsOf, number, sent}
use Rattle.trio_runner.proofs.workers.stop_one.Given as goal

abbrev pub invariant-loop : goal.invariant-loop
invariant-loop g l = IsOf l.pool l.pass × (sent l.pass ≡ sent l.fn.pass) × (number l.pass ≡ number l.fn.pass)
