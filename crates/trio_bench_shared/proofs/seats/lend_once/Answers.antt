use Rattle.trio_bench_shared.proofs.Lending.{lease_is_out}
use Rattle.trio_bench_shared.proofs.seats.lend_once.Goals as goal

pub give_back-requires : goal.give_back-requires
give_back-requires g c =
    let seen = rw c.in-Ok-Read.field-0-is at c.in-Ok-Read.ensures.seen in
    lease_is_out (g.D.Desk.seen c.args.desk.now).out _ c.in-Ok-Read.lease seen.out
