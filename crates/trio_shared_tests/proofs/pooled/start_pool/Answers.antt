use Rattle.trio_pool.specs.Passes.{IsOf}
use Rattle.trio_runner.proofs.Hands.{of_front, of_last}
use Rattle.trio_shared_tests.proofs.pooled.start_pool.Goals as goal

pub returns : goal.returns
returns c =
    let P = IsOf c.in-Ok.pool in
    let two = c.pop.new.self.items in
    let one = c.pop-2.new.self.items in
    let each = of_front P c.in-Ok.passes.items two c.in_ok-first.first c.in_ok-first.ensures.items (λ k p at. (c.in-Ok.ensures.passes.1 k p at).is_of) in (
      of_last P c.in-Ok.passes.items two c.in_ok-first.first c.in_ok-first.ensures.items (λ k p at. (c.in-Ok.ensures.passes.1 k p at).is_of),
      of_last P two one c.in_ok-second.second c.in_ok-second.ensures.items each,
      of_last P one c.pop-3.new.self.items c.in_ok-third.third c.in_ok-third.ensures.items (of_front P two one c.in_ok-second.second c.in_ok-second.ensures.items each),
    )
