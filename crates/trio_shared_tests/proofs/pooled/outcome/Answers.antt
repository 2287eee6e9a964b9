use Rattle.trio_shared_tests.specs.Sits.{Arrives}
use Rattle.trio_runner.proofs.Hands.{of_last}
use Rattle.trio_shared_tests.proofs.pooled.outcome.Goals as goal

pub join-judged-requires-after_bounds : goal.join-judged-requires-after_bounds
join-judged-requires-after_bounds g c κs within =
    let seat = of_last (Arrives c.in_ok-shared.shared) c.in_ok-shared.seats.items c.pop.new.self.items c.in_ok-seat.seat c.in_ok-seat.ensures.items (λ k s at. (c.in_ok-shared.ensures.each k s at).arrives) in
    ((c.in_ok-pool.ensures.1, c.in_ok-mails.ensures.1), (seat, c.in_ok-pool.ensures.0, c.in_ok-pool.ensures.2, c.is_posted.ensures))
