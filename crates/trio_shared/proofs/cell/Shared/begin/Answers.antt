use Rattle.trio_shared.proofs.Words.{◌∙◌, Controller, DeskSeen, Grows, LibNo, None, State, TellsBeginning, TellsWhetherClosed, WasGiven, ap, begin_answer, bundle_in, library_of, mark_at, parcel_of, refl, seated, subst, sym}
use Rattle.trio_shared.proofs.Grown.{desk_before, desk_same, is_idle, is_library, looked}
use Rattle.trio_shared.proofs.TwoMoves.{begin_grows, begun_now, begun_seat, tells_beginning}
use Rattle.trio_shared.proofs.Seats.{numbered, same_seat, saw, still_seat}
use Rattle.trio_shared.proofs.cell.Shared.begin.Goals as goal

pub begin-answer-requires-clause-library : goal.begin-answer-requires-clause-library
begin-answer-requires-clause-library g c =
    let is = ap numbered (c.library.ensures ∙ c.enter-held.ensures.same.1) in
    is_library (seated c.args.seat.now) c.enter-held.result c.enter-held.ensures.found c.library.result is

pub begin-answer-requires-clause-idle : goal.begin-answer-requires-clause-idle
begin-answer-requires-clause-idle g c =
    let is = ap numbered (c.library.ensures ∙ c.enter-held.ensures.same.1) in
    is_idle (seated c.args.seat.now) c.enter-held.result c.enter-held.ensures.found c.library.result is c.requires.idle

pub begin-answer-requires-clause-given : goal.begin-answer-requires-clause-given
begin-answer-requires-clause-given g c =
    let is = ap numbered (c.library.ensures ∙ c.enter-held.ensures.same.1) in
    subst (λ (d : DeskSeen). WasGiven d.out (parcel_of c.args.bundle)) (sym (desk_before (seated c.args.seat.now) c.enter-held.result c.enter-held.ensures.found c.library.result is)) c.requires.given

pub leave-requires-clause-grew : goal.leave-requires-clause-grew
leave-requires-clause-grew g c =
    let is = ap numbered (c.library.ensures ∙ c.enter-held.ensures.same.1) in
    let b = c.begin-answer.ensures in
    let one = (is_library (seated c.args.seat.now) c.enter-held.result c.enter-held.ensures.found c.library.result is).0 in
    (c.enter-held.result, c.enter-held.ensures.has, subst (λ (l : LibNo). Grows l c.enter-held.result c.begin-answer.new.self) (is ∙ sym (ap numbered c.enter-held.ensures.same.1)) (begin_grows c.enter-held.result c.begin-answer.new.self c.library.result (bundle_in c.args.bundle) (begin_answer c.begin-answer.result (λ back. back.1)) one b.acts b.rest))

pub returns-clause-looked : goal.returns-clause-looked
returns-clause-looked g c =
    let is = ap numbered (c.library.ensures ∙ c.enter-held.ensures.same.1) in
    let b = c.begin-answer.ensures in
    let log = ap (λ (x : Controller). x.log) b.rest in
    looked (seated c.args.seat.now) c.enter-held.result c.enter-held.ensures.found c.library.result is c.enter-held.result (record { first = refl; log = refl; state = refl; begun = refl }) (seated c.leave.new.seat)
    (saw c.args.seat.now c.enter-held.new.seat c.leave.new.seat c.enter-held.ensures.same c.leave.ensures.same c.enter-held.result (c.leave.ensures.seen ∙ log) c.enter-held.ensures.found.left)
    (λ (s : State). TellsBeginning s (library_of c.args.seat.now) c.args.bundle c.begin-answer.result (λ back. back.1))
    (subst (λ (l : LibNo). TellsBeginning c.enter-held.result.state l c.args.bundle c.begin-answer.result (λ back. back.1)) is (tells_beginning c.enter-held.result c.begin-answer.new.self c.library.result c.args.bundle c.begin-answer.result (λ back. back.1) b.acts b.pending))

pub returns-clause-seen : goal.returns-clause-seen
returns-clause-seen g c =
    let is = ap numbered (c.library.ensures ∙ c.enter-held.ensures.same.1) in
    let log = ap (λ (x : Controller). x.log) c.begin-answer.ensures.rest in
    desk_same (seated c.args.seat.now) c.enter-held.result c.enter-held.ensures.found c.library.result is c.enter-held.result (record { first = refl; log = refl; state = refl; begun = refl }) (seated c.leave.new.seat)
    (saw c.args.seat.now c.enter-held.new.seat c.leave.new.seat c.enter-held.ensures.same c.leave.ensures.same c.enter-held.result (c.leave.ensures.seen ∙ log) c.enter-held.ensures.found.left)

pub returns-clause-begun : goal.returns-clause-begun
returns-clause-begun g c =
    let is = ap numbered (c.library.ensures ∙ c.enter-held.ensures.same.1) in
    let b = c.begin-answer.ensures in
    let now = begun_now c.enter-held.result c.begin-answer.new.self c.library.result c.args.bundle (seated c.args.seat.now) c.enter-held.ensures.found is c.begin-answer.result (λ back. back.1) b.was_kept c.requires.idle b.acts (ap (λ (x : Controller). x.state) b.rest) _ c.enter-held.ensures.same.1 in
    begun_seat (mark_at (seated c.args.seat.now) c.args.bundle) None c.begin-answer.result c.leave.ensures.begun now

pub returns-clause-seat : goal.returns-clause-seat
returns-clause-seat g c = (still_seat c.args.seat.now c.enter-held.new.seat c.leave.new.seat c.enter-held.ensures.same c.leave.ensures.same c.args.self.now c.requires.seat c.leave.ensures.given, same_seat c.args.seat.now c.enter-held.new.seat c.leave.new.seat c.enter-held.ensures.same c.leave.ensures.same)

pub returns-clause-closed : goal.returns-clause-closed
returns-clause-closed g c =
    let is = ap numbered (c.library.ensures ∙ c.enter-held.ensures.same.1) in
    subst (λ (d : DeskSeen). TellsWhetherClosed d.out (parcel_of c.args.bundle) c.begin-answer.result (λ back. back.1)) (desk_before (seated c.args.seat.now) c.enter-held.result c.enter-held.ensures.found c.library.result is) c.begin-answer.ensures.closed
