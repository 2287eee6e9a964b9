use Rattle.trio_shared.proofs.Words.{◌∙◌, State, library_of, refl, seated, ⊤}
use Rattle.trio_shared.proofs.Grown.{desk_same, grew_none, looked, stays_idle}
use Rattle.trio_shared.proofs.Seats.{same_seat, saw, still_seat}
use Rattle.trio_shared.proofs.cell.Shared.make_room.Goals as goal

pub leave-requires-clause-grew : goal.leave-requires-clause-grew
leave-requires-clause-grew g c =
    (c.enter-held.result, c.enter-held.ensures.has, grew_none c.enter-held.result (library_of c.enter-held.new.seat) c.make_room-answer.new.self c.make_room-answer.ensures.same)

pub returns-clause-looked : goal.returns-clause-looked
returns-clause-looked g c =
    looked (seated c.args.seat.now) c.enter-held.result c.enter-held.ensures.found (library_of c.args.seat.now) refl c.make_room-answer.new.self c.make_room-answer.ensures.same (seated c.leave.new.seat) (saw c.args.seat.now c.enter-held.new.seat c.leave.new.seat c.enter-held.ensures.same c.leave.ensures.same c.make_room-answer.new.self c.leave.ensures.seen c.leave.ensures.left) (λ (s : State). ⊤) tt

pub returns-clause-seen : goal.returns-clause-seen
returns-clause-seen g c =
    desk_same (seated c.args.seat.now) c.enter-held.result c.enter-held.ensures.found (library_of c.args.seat.now) refl c.make_room-answer.new.self c.make_room-answer.ensures.same (seated c.leave.new.seat) (saw c.args.seat.now c.enter-held.new.seat c.leave.new.seat c.enter-held.ensures.same c.leave.ensures.same c.make_room-answer.new.self c.leave.ensures.seen c.leave.ensures.left)

pub returns-clause-idle : goal.returns-clause-idle
returns-clause-idle g c =
    c.leave.ensures.begun ∙ stays_idle (seated c.args.seat.now) c.enter-held.result c.enter-held.ensures.found c.enter-held.ensures.same.1 c.requires.idle c.make_room-answer.new.self c.make_room-answer.ensures.same.begun

pub returns-clause-seat : goal.returns-clause-seat
returns-clause-seat g c = (still_seat c.args.seat.now c.enter-held.new.seat c.leave.new.seat c.enter-held.ensures.same c.leave.ensures.same c.args.self.now c.requires.seat c.leave.ensures.given, same_seat c.args.seat.now c.enter-held.new.seat c.leave.new.seat c.enter-held.ensures.same c.leave.ensures.same)
