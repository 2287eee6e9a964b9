use Rattle.trio_shared_tests.proofs.runs.run_so.Goals as goal

pub run-requires-clause-idle : goal.run-requires-clause-idle
run-requires-clause-idle g c κs within = c.in-Ok.ensures.idle
