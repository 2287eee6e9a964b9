use Rattle.trio_runner.proofs.Words.{Arrives, Held, LibSeat, List, subst, sym}
use Rattle.trio_turn.specs.Seats.{OfEach}
use Rattle.trio_runner.proofs.threads.run_seats.Goals as goal

pub run_all-requires-clause-arrive : goal.run_all-requires-clause-arrive
run_all-requires-clause-arrive g c κs within =
    subst (λ (seats : List (LibSeat Held)). OfEach (Arrives c.args.shared.now c.args.libs.now) seats) (sym c.in_ok-starts.ensures.seats) c.requires.arrive
