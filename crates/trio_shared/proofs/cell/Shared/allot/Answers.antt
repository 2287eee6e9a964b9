use Rattle.trio_shared.proofs.Words.{◌∙◌, DeskSeen, Grows, IfOk, LibNo, ap, seated, subst, sym}
use Rattle.trio_desk.specs.Call.{Allot, allot_told}
use Rattle.trio_desk.specs.Out.{IsFreshAllotment}
use Rattle.trio_shared.proofs.Grown.{called, desk_before, grew, is_idle, is_library, seen_after, stays_idle}
use Rattle.trio_shared.proofs.Seats.{numbered, saw, still_seat, same_seat}
use Rattle.trio_shared.proofs.cell.Shared.allot.Goals as goal

pub allot-answer-requires-clause-library : goal.allot-answer-requires-clause-library
allot-answer-requires-clause-library g c =
    let is = ap numbered (c.library.ensures ∙ c.enter-held.ensures.same.1) in
    is_library (seated c.args.seat.now) c.enter-held.result c.enter-held.ensures.found c.library.result is

pub leave-requires-clause-grew : goal.leave-requires-clause-grew
leave-requires-clause-grew g c =
    let is = ap numbered (c.library.ensures ∙ c.enter-held.ensures.same.1) in
    (c.enter-held.result, c.enter-held.ensures.has, subst (λ (l : LibNo). Grows l c.enter-held.result c.allot-answer.new.self) (is ∙ sym (ap numbered c.enter-held.ensures.same.1)) (grew c.enter-held.result c.library.result (Allot c.args.pages c.args.inodes) (allot_told c.allot-answer.result) c.allot-answer.new.self c.enter-held.ensures.found.left.all.kept c.allot-answer.ensures.made))

pub returns-clause-called : goal.returns-clause-called
returns-clause-called g c =
    let is = ap numbered (c.library.ensures ∙ c.enter-held.ensures.same.1) in
    called (seated c.args.seat.now) c.enter-held.result c.enter-held.ensures.found c.library.result is (Allot c.args.pages c.args.inodes) (allot_told c.allot-answer.result) c.allot-answer.new.self c.allot-answer.ensures.made (seated c.leave.new.seat) (saw c.args.seat.now c.enter-held.new.seat c.leave.new.seat c.enter-held.ensures.same c.leave.ensures.same c.allot-answer.new.self c.leave.ensures.seen c.leave.ensures.left)

pub returns-clause-seen : goal.returns-clause-seen
returns-clause-seen g c =
    let is = ap numbered (c.library.ensures ∙ c.enter-held.ensures.same.1) in
    seen_after (seated c.args.seat.now) c.enter-held.result c.enter-held.ensures.found c.library.result is (Allot c.args.pages c.args.inodes) (allot_told c.allot-answer.result) c.allot-answer.new.self c.allot-answer.ensures.made (seated c.leave.new.seat) (saw c.args.seat.now c.enter-held.new.seat c.leave.new.seat c.enter-held.ensures.same c.leave.ensures.same c.allot-answer.new.self c.leave.ensures.seen c.leave.ensures.left) c.allot-answer.ensures.seen

pub returns-clause-fresh : goal.returns-clause-fresh
returns-clause-fresh g c =
    let is = ap numbered (c.library.ensures ∙ c.enter-held.ensures.same.1) in
    subst (λ (d : DeskSeen). IfOk c.allot-answer.result (IsFreshAllotment d.lib d.sizes d.out)) (desk_before (seated c.args.seat.now) c.enter-held.result c.enter-held.ensures.found c.library.result is) c.allot-answer.ensures.fresh

pub returns-clause-seat : goal.returns-clause-seat
returns-clause-seat g c = (still_seat c.args.seat.now c.enter-held.new.seat c.leave.new.seat c.enter-held.ensures.same c.leave.ensures.same c.args.self.now c.requires.seat c.leave.ensures.given, same_seat c.args.seat.now c.enter-held.new.seat c.leave.new.seat c.enter-held.ensures.same c.leave.ensures.same)

pub allot-answer-requires-clause-idle : goal.allot-answer-requires-clause-idle
allot-answer-requires-clause-idle g c =
    let is = ap numbered (c.library.ensures ∙ c.enter-held.ensures.same.1) in
    is_idle (seated c.args.seat.now) c.enter-held.result c.enter-held.ensures.found c.library.result is c.requires.idle

pub returns-clause-idle : goal.returns-clause-idle
returns-clause-idle g c =
    let is = ap numbered (c.library.ensures ∙ c.enter-held.ensures.same.1) in
    c.leave.ensures.begun ∙ stays_idle (seated c.args.seat.now) c.enter-held.result c.enter-held.ensures.found c.enter-held.ensures.same.1 c.requires.idle c.allot-answer.new.self c.allot-answer.ensures.made.logs.begun
