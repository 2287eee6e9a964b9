use Rattle.trio_shared.proofs.Words.{◌∙◌, DeskSeen, Grows, LibNo, SetMode, TellsCause, TellsHolder, ap, seated, subst, sym}
use Rattle.trio_desk.specs.Call.{mode_told}
use Rattle.trio_desk.specs.Ready.{AreLent, TellsChmod}
use Rattle.trio_shared.proofs.Grown.{busy, called, desk_before, grew, is_idle, is_library, seen_after, stays_idle}
use Rattle.trio_shared.proofs.Seats.{numbered, saw, still_seat, same_seat}
use Rattle.trio_shared.proofs.cell.Shared.set_mode.Goals as goal

pub set_mode-answer-requires-clause-library : goal.set_mode-answer-requires-clause-library
set_mode-answer-requires-clause-library g c =
    let is = ap numbered (c.library.ensures ∙ c.enter-held.ensures.same.1) in
    is_library (seated c.args.seat.now) c.enter-held.result c.enter-held.ensures.found c.library.result is

pub set_mode-answer-requires-clause-lent : goal.set_mode-answer-requires-clause-lent
set_mode-answer-requires-clause-lent g c =
    let is = ap numbered (c.library.ensures ∙ c.enter-held.ensures.same.1) in
    subst (λ (d : DeskSeen). AreLent d.out c.args.back.items) (sym (desk_before (seated c.args.seat.now) c.enter-held.result c.enter-held.ensures.found c.library.result is)) c.requires.lent

pub set_mode-answer-requires-clause-chmod : goal.set_mode-answer-requires-clause-chmod
set_mode-answer-requires-clause-chmod g c =
    let is = ap numbered (c.library.ensures ∙ c.enter-held.ensures.same.1) in
    subst (λ (d : DeskSeen). TellsChmod d c.args.back.items c.args.ino c.args.mode c.args.call) (sym (desk_before (seated c.args.seat.now) c.enter-held.result c.enter-held.ensures.found c.library.result is)) c.requires.chmod

pub leave-requires-clause-grew : goal.leave-requires-clause-grew
leave-requires-clause-grew g c =
    let is = ap numbered (c.library.ensures ∙ c.enter-held.ensures.same.1) in
    (c.enter-held.result, c.enter-held.ensures.has, subst (λ (l : LibNo). Grows l c.enter-held.result c.set_mode-answer.new.self) (is ∙ sym (ap numbered c.enter-held.ensures.same.1)) (grew c.enter-held.result c.library.result (SetMode c.args.ino c.args.mode c.args.back.items c.args.call) (mode_told c.set_mode-answer.result (λ came. came.2)) c.set_mode-answer.new.self c.enter-held.ensures.found.left.all.kept c.set_mode-answer.ensures.made))

pub returns-clause-called : goal.returns-clause-called
returns-clause-called g c =
    let is = ap numbered (c.library.ensures ∙ c.enter-held.ensures.same.1) in
    called (seated c.args.seat.now) c.enter-held.result c.enter-held.ensures.found c.library.result is (SetMode c.args.ino c.args.mode c.args.back.items c.args.call) (mode_told c.set_mode-answer.result (λ came. came.2)) c.set_mode-answer.new.self c.set_mode-answer.ensures.made (seated c.leave.new.seat) (saw c.args.seat.now c.enter-held.new.seat c.leave.new.seat c.enter-held.ensures.same c.leave.ensures.same c.set_mode-answer.new.self c.leave.ensures.seen c.leave.ensures.left)

pub returns-clause-seen : goal.returns-clause-seen
returns-clause-seen g c =
    let is = ap numbered (c.library.ensures ∙ c.enter-held.ensures.same.1) in
    seen_after (seated c.args.seat.now) c.enter-held.result c.enter-held.ensures.found c.library.result is (SetMode c.args.ino c.args.mode c.args.back.items c.args.call) (mode_told c.set_mode-answer.result (λ came. came.2)) c.set_mode-answer.new.self c.set_mode-answer.ensures.made (seated c.leave.new.seat) (saw c.args.seat.now c.enter-held.new.seat c.leave.new.seat c.enter-held.ensures.same c.leave.ensures.same c.set_mode-answer.new.self c.leave.ensures.seen c.leave.ensures.left) c.set_mode-answer.ensures.seen

pub returns-clause-holder : goal.returns-clause-holder
returns-clause-holder g c =
    let is = ap numbered (c.library.ensures ∙ c.enter-held.ensures.same.1) in
    subst (λ (d : DeskSeen). TellsHolder d.lib d.out (SetMode c.args.ino c.args.mode c.args.back.items c.args.call) (mode_told c.set_mode-answer.result (λ came. came.2))) (desk_before (seated c.args.seat.now) c.enter-held.result c.enter-held.ensures.found c.library.result is) c.set_mode-answer.ensures.holder

pub returns-clause-cause : goal.returns-clause-cause
returns-clause-cause g c =
    let is = ap numbered (c.library.ensures ∙ c.enter-held.ensures.same.1) in
    subst (λ (d : DeskSeen). TellsCause d (SetMode c.args.ino c.args.mode c.args.back.items c.args.call) (mode_told c.set_mode-answer.result (λ came. came.2))) (desk_before (seated c.args.seat.now) c.enter-held.result c.enter-held.ensures.found c.library.result is) c.set_mode-answer.ensures.cause

pub returns-clause-seat : goal.returns-clause-seat
returns-clause-seat g c = (still_seat c.args.seat.now c.enter-held.new.seat c.leave.new.seat c.enter-held.ensures.same c.leave.ensures.same c.args.self.now c.requires.seat c.leave.ensures.given, same_seat c.args.seat.now c.enter-held.new.seat c.leave.new.seat c.enter-held.ensures.same c.leave.ensures.same)

pub set_mode-answer-requires-clause-idle : goal.set_mode-answer-requires-clause-idle
set_mode-answer-requires-clause-idle g c =
    let is = ap numbered (c.library.ensures ∙ c.enter-held.ensures.same.1) in
    is_idle (seated c.args.seat.now) c.enter-held.result c.enter-held.ensures.found c.library.result is c.requires.idle

pub returns-clause-idle : goal.returns-clause-idle
returns-clause-idle g c =
    let is = ap numbered (c.library.ensures ∙ c.enter-held.ensures.same.1) in
    c.leave.ensures.begun ∙ stays_idle (seated c.args.seat.now) c.enter-held.result c.enter-held.ensures.found c.enter-held.ensures.same.1 c.requires.idle c.set_mode-answer.new.self c.set_mode-answer.ensures.made.logs.begun

pub returns-clause-busy : goal.returns-clause-busy
returns-clause-busy g c =
    let is = ap numbered (c.library.ensures ∙ c.enter-held.ensures.same.1) in
    busy (seated c.args.seat.now) c.enter-held.result c.enter-held.ensures.found c.library.result is (SetMode c.args.ino c.args.mode c.args.back.items c.args.call) (mode_told c.set_mode-answer.result (λ came. came.2)) c.set_mode-answer.new.self c.set_mode-answer.ensures.made (seated c.leave.new.seat) (saw c.args.seat.now c.enter-held.new.seat c.leave.new.seat c.enter-held.ensures.same c.leave.ensures.same c.set_mode-answer.new.self c.leave.ensures.seen c.leave.ensures.left)
