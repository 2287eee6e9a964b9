use Rattle.trio_ctl_tests.proofs.hand_in.settles_with_room.Goals as goal

pub of-desk-requires-clause-idle : goal.of-desk-requires-clause-idle
of-desk-requires-clause-idle c = c.has_room.ensures.idle 1
