use Rattle.trio_pool.specs.Passes.{IsOf}
use Rattle.trio_runner.proofs.Hands.{of_front, of_last}
use Rattle.trio_runner.proofs.workers.run_with_workers.Goals as goal

pub hands-requires-clause-passes : goal.hands-requires-clause-passes
hands-requires-clause-passes g c =
    of_front (IsOf c.in_ok-pool.pool) c.in_ok-pool.passes.items c.pop.new.self.items c.in-Some.last c.in-Some.ensures.items (λ k p at. (c.in_ok-pool.ensures.passes.1 k p at).is_of)

pub beside-requires-clause-pass : goal.beside-requires-clause-pass
beside-requires-clause-pass g c κs within =
    of_last (IsOf c.in_ok-pool.pool) c.in_ok-pool.passes.items c.pop.new.self.items c.in-Some.last c.in-Some.ensures.items (λ k p at. (c.in_ok-pool.ensures.passes.1 k p at).is_of)
