use Rattle.trio_shared_tests.proofs.runs.play_so.Goals as goal

pub play-requires-clause-idle : goal.play-requires-clause-idle
play-requires-clause-idle c = c.in-Ok.ensures.idle
