use Rattle.trio_shared_tests.proofs.Words.{DeskSeen, ap}
use Rattle.trio_shared_tests.proofs.rows.looks.Goals as goal

pub returns-clause-on : goal.returns-clause-on
returns-clause-on g c =
    let looked = c.make_room-room.ensures in
    record { sits = record { is_seat = looked.seat.0; is_idle = looked.idle }; library = looked.seat.1.1 }

pub returns-clause-out : goal.returns-clause-out
returns-clause-out g c = ap (λ (d : DeskSeen). d.out) c.make_room-room.ensures.seen

pub returns-clause-left : goal.returns-clause-left
returns-clause-left g c = record { state = c.make_room-room.ensures.looked.after; left = c.make_room-room.ensures.looked.left }
