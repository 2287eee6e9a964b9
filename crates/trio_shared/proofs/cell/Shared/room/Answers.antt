use Rattle.trio_shared.proofs.Words.{◌∙◌, DeskSeen, State, ap, bundle_in, library_of, refl, seated, sym, ⊤}
use Rattle.trio_shared.proofs.Belongs.{belongs_then, room_of}
use Rattle.trio_shared.proofs.Left.{desk_is_left}
use Rattle.trio_shared.proofs.Grown.{desk_same, grew_none, looked, stays_idle}
use Rattle.trio_shared.proofs.Seats.{same_seat, saw, still_seat}
use Rattle.trio_shared.proofs.cell.Shared.room.Goals as goal

pub leave-requires-clause-grew : goal.leave-requires-clause-grew
leave-requires-clause-grew g c =
    (c.enter-held.result, c.enter-held.ensures.has, grew_none c.enter-held.result (library_of c.enter-held.new.seat) c.enter-held.result (record { first = refl; log = refl; state = refl; begun = refl }))

pub returns-clause-looked : goal.returns-clause-looked
returns-clause-looked g c =
    looked (seated c.args.seat.now) c.enter-held.result c.enter-held.ensures.found (library_of c.args.seat.now) refl c.enter-held.result (record { first = refl; log = refl; state = refl; begun = refl }) (seated c.leave.new.seat) (saw c.args.seat.now c.enter-held.new.seat c.leave.new.seat c.enter-held.ensures.same c.leave.ensures.same c.enter-held.result c.leave.ensures.seen c.leave.ensures.left) (λ (s : State). ⊤) tt

pub returns-clause-seen : goal.returns-clause-seen
returns-clause-seen g c =
    desk_same (seated c.args.seat.now) c.enter-held.result c.enter-held.ensures.found (library_of c.args.seat.now) refl c.enter-held.result (record { first = refl; log = refl; state = refl; begun = refl }) (seated c.leave.new.seat) (saw c.args.seat.now c.enter-held.new.seat c.leave.new.seat c.enter-held.ensures.same c.leave.ensures.same c.enter-held.result c.leave.ensures.seen c.leave.ensures.left)

pub returns-clause-idle : goal.returns-clause-idle
returns-clause-idle g c =
    c.leave.ensures.begun ∙ stays_idle (seated c.args.seat.now) c.enter-held.result c.enter-held.ensures.found c.enter-held.ensures.same.1 c.requires.idle c.enter-held.result refl

pub returns-clause-seat : goal.returns-clause-seat
returns-clause-seat g c = (still_seat c.args.seat.now c.enter-held.new.seat c.leave.new.seat c.enter-held.ensures.same c.leave.ensures.same c.args.self.now c.requires.seat c.leave.ensures.given, same_seat c.args.seat.now c.enter-held.new.seat c.leave.new.seat c.enter-held.ensures.same c.leave.ensures.same)

pub room-answer-requires : goal.room-answer-requires
room-answer-requires g c =
    let f = c.enter-held.ensures.found in
    let was = c.requires.belongs in
    let l = library_of c.args.seat.now in
    let same = ap (λ (d : DeskSeen). d.out) (desk_is_left _ _ was.state l was.left ∙ sym f.desk) in
    (l.0, belongs_then was.state c.enter-held.result.state l same c.args.bundle.now was.belongs)

pub returns-clause-room : goal.returns-clause-room
returns-clause-room g c =
    c.room-answer.ensures ∙ ap (λ (d : DeskSeen). room_of d.sizes (bundle_in c.args.bundle.now)) c.enter-held.ensures.found.desk
