use Rattle.trio_ctl_tests.proofs.hand_in.is_changed.Goals as goal

pub of-desk-requires-clause-idle : goal.of-desk-requires-clause-idle
of-desk-requires-clause-idle c = c.requires.idle 1
