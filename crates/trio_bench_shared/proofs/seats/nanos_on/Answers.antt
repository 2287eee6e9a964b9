use Rattle.trio_bench_shared.proofs.seats.nanos_on.Goals as goal

pub of-desk-requires-clause-idle : goal.of-desk-requires-clause-idle
of-desk-requires-clause-idle g c = c.requires.idle 1
