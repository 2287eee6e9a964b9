use Rattle.trio_shared.proofs.Words.{◌∙◌, Belongs, IsTrue, LibNo, State, ap, library_of, refl, seated, subst}
use Rattle.std.specs.Prelude.{◌↔◌}
use Rattle.trio_shared.proofs.Grown.{desk_same, grew_none, is_library, looked, stays_idle}
use Rattle.trio_shared.proofs.Seats.{numbered, same_seat, saw, still_seat}
use Rattle.trio_shared.proofs.cell.Shared.belongs.Goals as goal

pub leave-requires-clause-grew : goal.leave-requires-clause-grew
leave-requires-clause-grew g c =
    (c.enter-held.result, c.enter-held.ensures.has, grew_none c.enter-held.result (library_of c.enter-held.new.seat) c.enter-held.result (record { first = refl; log = refl; state = refl; begun = refl }))

pub returns-clause-looked : goal.returns-clause-looked
returns-clause-looked g c =
    let is = ap numbered (c.library.ensures ∙ c.enter-held.ensures.same.1) in
    let given = subst (λ (l : LibNo). IsTrue c.belongs-answer.result ↔ Belongs c.enter-held.result.state l.0 c.args.bundle.now) is c.belongs-answer.ensures.exactly in
    looked (seated c.args.seat.now) c.enter-held.result c.enter-held.ensures.found c.library.result is c.enter-held.result (record { first = refl; log = refl; state = refl; begun = refl }) (seated c.leave.new.seat) (saw c.args.seat.now c.enter-held.new.seat c.leave.new.seat c.enter-held.ensures.same c.leave.ensures.same c.enter-held.result c.leave.ensures.seen c.leave.ensures.left) (λ (s : State). IsTrue c.belongs-answer.result ↔ Belongs s (library_of c.args.seat.now).0 c.args.bundle.now) given

pub returns-clause-seen : goal.returns-clause-seen
returns-clause-seen g c =
    let is = ap numbered (c.library.ensures ∙ c.enter-held.ensures.same.1) in
    desk_same (seated c.args.seat.now) c.enter-held.result c.enter-held.ensures.found c.library.result is c.enter-held.result (record { first = refl; log = refl; state = refl; begun = refl }) (seated c.leave.new.seat) (saw c.args.seat.now c.enter-held.new.seat c.leave.new.seat c.enter-held.ensures.same c.leave.ensures.same c.enter-held.result c.leave.ensures.seen c.leave.ensures.left)

pub returns-clause-idle : goal.returns-clause-idle
returns-clause-idle g c =
    c.leave.ensures.begun ∙ stays_idle (seated c.args.seat.now) c.enter-held.result c.enter-held.ensures.found c.enter-held.ensures.same.1 c.requires.idle c.enter-held.result refl

pub returns-clause-seat : goal.returns-clause-seat
returns-clause-seat g c = (still_seat c.args.seat.now c.enter-held.new.seat c.leave.new.seat c.enter-held.ensures.same c.leave.ensures.same c.args.self.now c.requires.seat c.leave.ensures.given, same_seat c.args.seat.now c.enter-held.new.seat c.leave.new.seat c.enter-held.ensures.same c.leave.ensures.same)

pub belongs-answer-requires : goal.belongs-answer-requires
belongs-answer-requires g c =
    let is = ap numbered (c.library.ensures ∙ c.enter-held.ensures.same.1) in
    record { library = is_library (seated c.args.seat.now) c.enter-held.result c.enter-held.ensures.found c.library.result is }
