use Rattle.trio_bench_shared.proofs.Lending.{last_seat}
use Rattle.trio_bench_shared.proofs.seats.start_one.Goals as goal

pub returns : goal.returns
returns c = last_seat c.in-Ok.shared _ c.in-Ok.seats.items c.pop.new.self.items c.in-Some.seat c.in-Ok.ensures.seats c.in-Some.ensures.items
