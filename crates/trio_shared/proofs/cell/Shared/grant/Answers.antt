use Rattle.trio_shared.proofs.Words.{◌∙◌, DeskSeen, Grows, IfOk, LibNo, TellsCause, TellsHolder, ap, seated, subst, sym}
use Rattle.trio_desk.specs.Call.{Grant, lease_told}
use Rattle.trio_desk.specs.Out.{IsFreshLease}
use Rattle.trio_shared.proofs.Grown.{busy, called, desk_before, grew, is_idle, is_library, seen_after, stays_idle}
use Rattle.trio_shared.proofs.Seats.{numbered, saw, still_seat, same_seat}
use Rattle.trio_shared.proofs.cell.Shared.grant.Goals as goal

pub grant-answer-requires-clause-library : goal.grant-answer-requires-clause-library
grant-answer-requires-clause-library g c =
    let is = ap numbered (c.library.ensures ∙ c.enter-held.ensures.same.1) in
    is_library (seated c.args.seat.now) c.enter-held.result c.enter-held.ensures.found c.library.result is

pub leave-requires-clause-grew : goal.leave-requires-clause-grew
leave-requires-clause-grew g c =
    let is = ap numbered (c.library.ensures ∙ c.enter-held.ensures.same.1) in
    (c.enter-held.result, c.enter-held.ensures.has, subst (λ (l : LibNo). Grows l c.enter-held.result c.grant-answer.new.self) (is ∙ sym (ap numbered c.enter-held.ensures.same.1)) (grew c.enter-held.result c.library.result (Grant c.args.ino c.args.kind) (lease_told c.grant-answer.result) c.grant-answer.new.self c.enter-held.ensures.found.left.all.kept c.grant-answer.ensures.made))

pub returns-clause-called : goal.returns-clause-called
returns-clause-called g c =
    let is = ap numbered (c.library.ensures ∙ c.enter-held.ensures.same.1) in
    called (seated c.args.seat.now) c.enter-held.result c.enter-held.ensures.found c.library.result is (Grant c.args.ino c.args.kind) (lease_told c.grant-answer.result) c.grant-answer.new.self c.grant-answer.ensures.made (seated c.leave.new.seat) (saw c.args.seat.now c.enter-held.new.seat c.leave.new.seat c.enter-held.ensures.same c.leave.ensures.same c.grant-answer.new.self c.leave.ensures.seen c.leave.ensures.left)

pub returns-clause-seen : goal.returns-clause-seen
returns-clause-seen g c =
    let is = ap numbered (c.library.ensures ∙ c.enter-held.ensures.same.1) in
    seen_after (seated c.args.seat.now) c.enter-held.result c.enter-held.ensures.found c.library.result is (Grant c.args.ino c.args.kind) (lease_told c.grant-answer.result) c.grant-answer.new.self c.grant-answer.ensures.made (seated c.leave.new.seat) (saw c.args.seat.now c.enter-held.new.seat c.leave.new.seat c.enter-held.ensures.same c.leave.ensures.same c.grant-answer.new.self c.leave.ensures.seen c.leave.ensures.left) c.grant-answer.ensures.seen

pub returns-clause-holder : goal.returns-clause-holder
returns-clause-holder g c =
    let is = ap numbered (c.library.ensures ∙ c.enter-held.ensures.same.1) in
    subst (λ (d : DeskSeen). TellsHolder d.lib d.out (Grant c.args.ino c.args.kind) (lease_told c.grant-answer.result)) (desk_before (seated c.args.seat.now) c.enter-held.result c.enter-held.ensures.found c.library.result is) c.grant-answer.ensures.holder

pub returns-clause-cause : goal.returns-clause-cause
returns-clause-cause g c =
    let is = ap numbered (c.library.ensures ∙ c.enter-held.ensures.same.1) in
    subst (λ (d : DeskSeen). TellsCause d (Grant c.args.ino c.args.kind) (lease_told c.grant-answer.result)) (desk_before (seated c.args.seat.now) c.enter-held.result c.enter-held.ensures.found c.library.result is) c.grant-answer.ensures.cause

pub returns-clause-lease : goal.returns-clause-lease
returns-clause-lease g c =
    let is = ap numbered (c.library.ensures ∙ c.enter-held.ensures.same.1) in
    subst (λ (d : DeskSeen). IfOk c.grant-answer.result (IsFreshLease d.lib c.args.ino d.sizes d.out)) (desk_before (seated c.args.seat.now) c.enter-held.result c.enter-held.ensures.found c.library.result is) c.grant-answer.ensures.lease

pub returns-clause-seat : goal.returns-clause-seat
returns-clause-seat g c = (still_seat c.args.seat.now c.enter-held.new.seat c.leave.new.seat c.enter-held.ensures.same c.leave.ensures.same c.args.self.now c.requires.seat c.leave.ensures.given, same_seat c.args.seat.now c.enter-held.new.seat c.leave.new.seat c.enter-held.ensures.same c.leave.ensures.same)

pub grant-answer-requires-clause-idle : goal.grant-answer-requires-clause-idle
grant-answer-requires-clause-idle g c =
    let is = ap numbered (c.library.ensures ∙ c.enter-held.ensures.same.1) in
    is_idle (seated c.args.seat.now) c.enter-held.result c.enter-held.ensures.found c.library.result is c.requires.idle

pub returns-clause-idle : goal.returns-clause-idle
returns-clause-idle g c =
    let is = ap numbered (c.library.ensures ∙ c.enter-held.ensures.same.1) in
    c.leave.ensures.begun ∙ stays_idle (seated c.args.seat.now) c.enter-held.result c.enter-held.ensures.found c.enter-held.ensures.same.1 c.requires.idle c.grant-answer.new.self c.grant-answer.ensures.made.logs.begun

pub returns-clause-busy : goal.returns-clause-busy
returns-clause-busy g c =
    let is = ap numbered (c.library.ensures ∙ c.enter-held.ensures.same.1) in
    busy (seated c.args.seat.now) c.enter-held.result c.enter-held.ensures.found c.library.result is (Grant c.args.ino c.args.kind) (lease_told c.grant-answer.result) c.grant-answer.new.self c.grant-answer.ensures.made (seated c.leave.new.seat) (saw c.args.seat.now c.enter-held.new.seat c.leave.new.seat c.enter-held.ensures.same c.leave.ensures.same c.grant-answer.new.self c.leave.ensures.seen c.leave.ensures.left)
