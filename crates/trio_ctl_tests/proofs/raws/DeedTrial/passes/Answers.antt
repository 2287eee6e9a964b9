use Rattle.trio_ctl_tests.proofs.raws.DeedTrial.passes.Goals as goal

pub of-desk-requires-clause-idle : goal.of-desk-requires-clause-idle
of-desk-requires-clause-idle c = c.requires.idle 1
