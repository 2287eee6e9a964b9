use Rattle.trio_shared.proofs.Words.{◌∙◌, DeskSeen, Grows, LibNo, Settle, ap, parcel_of, seated, subst, sym}
use Rattle.trio_desk.specs.Call.{settle_told}
use Rattle.trio_desk.specs.Ready.{Ready}
use Rattle.trio_shared.proofs.Grown.{called, desk_before, grew, is_idle, is_library, seen_after, stays_idle}
use Rattle.trio_shared.proofs.Seats.{numbered, saw, still_seat, same_seat}
use Rattle.trio_shared.proofs.cell.Shared.settle.Goals as goal

pub settle-answer-requires-clause-library : goal.settle-answer-requires-clause-library
settle-answer-requires-clause-library g c =
    let is = ap numbered (c.library.ensures ∙ c.enter-held.ensures.same.1) in
    is_library (seated c.args.seat.now) c.enter-held.result c.enter-held.ensures.found c.library.result is

pub settle-answer-requires-clause-ready : goal.settle-answer-requires-clause-ready
settle-answer-requires-clause-ready g c =
    let is = ap numbered (c.library.ensures ∙ c.enter-held.ensures.same.1) in
    subst (λ (d : DeskSeen). Ready d (parcel_of c.args.bundle) c.args.back.items c.args.calls.items) (sym (desk_before (seated c.args.seat.now) c.enter-held.result c.enter-held.ensures.found c.library.result is)) c.requires.ready

pub leave-requires-clause-grew : goal.leave-requires-clause-grew
leave-requires-clause-grew g c =
    let is = ap numbered (c.library.ensures ∙ c.enter-held.ensures.same.1) in
    (c.enter-held.result, c.enter-held.ensures.has, subst (λ (l : LibNo). Grows l c.enter-held.result c.settle-answer.new.self) (is ∙ sym (ap numbered c.enter-held.ensures.same.1)) (grew c.enter-held.result c.library.result (Settle (parcel_of c.args.bundle) c.args.back.items c.args.calls.items) (settle_told c.settle-answer.result) c.settle-answer.new.self c.enter-held.ensures.found.left.all.kept c.settle-answer.ensures.made))

pub returns-clause-called : goal.returns-clause-called
returns-clause-called g c =
    let is = ap numbered (c.library.ensures ∙ c.enter-held.ensures.same.1) in
    called (seated c.args.seat.now) c.enter-held.result c.enter-held.ensures.found c.library.result is (Settle (parcel_of c.args.bundle) c.args.back.items c.args.calls.items) (settle_told c.settle-answer.result) c.settle-answer.new.self c.settle-answer.ensures.made (seated c.leave.new.seat) (saw c.args.seat.now c.enter-held.new.seat c.leave.new.seat c.enter-held.ensures.same c.leave.ensures.same c.settle-answer.new.self c.leave.ensures.seen c.leave.ensures.left)

pub returns-clause-seen : goal.returns-clause-seen
returns-clause-seen g c =
    let is = ap numbered (c.library.ensures ∙ c.enter-held.ensures.same.1) in
    seen_after (seated c.args.seat.now) c.enter-held.result c.enter-held.ensures.found c.library.result is (Settle (parcel_of c.args.bundle) c.args.back.items c.args.calls.items) (settle_told c.settle-answer.result) c.settle-answer.new.self c.settle-answer.ensures.made (seated c.leave.new.seat) (saw c.args.seat.now c.enter-held.new.seat c.leave.new.seat c.enter-held.ensures.same c.leave.ensures.same c.settle-answer.new.self c.leave.ensures.seen c.leave.ensures.left) c.settle-answer.ensures.seen

pub returns-clause-seat : goal.returns-clause-seat
returns-clause-seat g c = (still_seat c.args.seat.now c.enter-held.new.seat c.leave.new.seat c.enter-held.ensures.same c.leave.ensures.same c.args.self.now c.requires.seat c.leave.ensures.given, same_seat c.args.seat.now c.enter-held.new.seat c.leave.new.seat c.enter-held.ensures.same c.leave.ensures.same)

pub settle-answer-requires-clause-idle : goal.settle-answer-requires-clause-idle
settle-answer-requires-clause-idle g c =
    let is = ap numbered (c.library.ensures ∙ c.enter-held.ensures.same.1) in
    is_idle (seated c.args.seat.now) c.enter-held.result c.enter-held.ensures.found c.library.result is c.requires.idle

pub returns-clause-idle : goal.returns-clause-idle
returns-clause-idle g c =
    let is = ap numbered (c.library.ensures ∙ c.enter-held.ensures.same.1) in
    c.leave.ensures.begun ∙ stays_idle (seated c.args.seat.now) c.enter-held.result c.enter-held.ensures.found c.enter-held.ensures.same.1 c.requires.idle c.settle-answer.new.self c.settle-answer.ensures.made.logs.begun
