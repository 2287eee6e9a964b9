use Rattle.trio_ctl_tests.proofs.calls.room_where_it_belongs.Goals as goal

pub room-requires : goal.room-requires
room-requires c = (1, c.belongs.ensures.exactly.0 c.if-belongs.true)
