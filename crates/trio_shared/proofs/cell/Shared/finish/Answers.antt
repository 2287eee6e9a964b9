use Rattle.trio_shared.proofs.Words.{◌∙◌, AreMarked, DeskSeen, Grows, LibNo, ap, handed_in, library_of, marked, seated, subst, sym}
use Rattle.trio_shared.proofs.Grown.{is_library}
use Rattle.trio_shared.proofs.Belongs.{marked_then}
use Rattle.trio_shared.proofs.Finish.{begun_end, desk_end, ended_all, grows_end, idle_all, looked_end}
use Rattle.trio_shared.proofs.Left.{desk_is_left}
use Rattle.trio_shared.proofs.Seats.{numbered, same_seat, saw, still_seat}
use Rattle.trio_shared.proofs.cell.Shared.finish.Goals as goal

pub finish-answer-requires : goal.finish-answer-requires
finish-answer-requires g c =
    let is = ap numbered (c.library.ensures ∙ c.enter-held.ensures.same.1) in
    let f = c.enter-held.ensures.found in
    record {
      marked = λ mine.
          let may = c.requires.marked (mine ∙ is) in
          let l = library_of c.args.seat.now in
          let same = ap (λ (d : DeskSeen). d.out) (desk_is_left _ _ may.state l may.left ∙ sym f.desk) in
          subst (λ (z : LibNo). AreMarked c.enter-held.result.state z.0 (handed_in c.args.judged.case.bundle)) (sym is)
          (marked_then may.state c.enter-held.result.state l same (handed_in c.args.judged.case.bundle) may.marked);
    }

pub leave-requires-clause-grew : goal.leave-requires-clause-grew
leave-requires-clause-grew g c =
    let is = ap numbered (c.library.ensures ∙ c.enter-held.ensures.same.1) in
    let e = c.finish-answer.ensures in
    let one = (is_library (seated c.args.seat.now) c.enter-held.result c.enter-held.ensures.found c.library.result is).0 in
    (c.enter-held.result, c.enter-held.ensures.has, subst (λ (l : LibNo). Grows l c.enter-held.result c.finish-answer.new.self) (is ∙ sym (ap numbered c.enter-held.ensures.same.1)) (grows_end c.enter-held.result c.finish-answer.new.self c.library.result c.args.judged.case c.finish-answer.result one e.ends e.same))

pub returns-clause-ends : goal.returns-clause-ends
returns-clause-ends g c =
    let is = ap numbered (c.library.ensures ∙ c.enter-held.ensures.same.1) in
    ended_all c.enter-held.result c.finish-answer.new.self c.library.result c.args.judged.case (seated c.args.seat.now) c.enter-held.ensures.found is (seated c.leave.new.seat)
    (saw c.args.seat.now c.enter-held.new.seat c.leave.new.seat c.enter-held.ensures.same c.leave.ensures.same c.finish-answer.new.self c.leave.ensures.seen c.leave.ensures.left) c.finish-answer.result c.finish-answer.ensures.ends

pub returns-clause-looked : goal.returns-clause-looked
returns-clause-looked g c =
    let is = ap numbered (c.library.ensures ∙ c.enter-held.ensures.same.1) in
    looked_end c.enter-held.result c.finish-answer.new.self c.library.result c.args.judged.case (seated c.args.seat.now) c.enter-held.ensures.found is (seated c.leave.new.seat)
    (saw c.args.seat.now c.enter-held.new.seat c.leave.new.seat c.enter-held.ensures.same c.leave.ensures.same c.finish-answer.new.self c.leave.ensures.seen c.leave.ensures.left) c.finish-answer.result c.finish-answer.ensures.same c.finish-answer.ensures.exactly

pub returns-clause-seen : goal.returns-clause-seen
returns-clause-seen g c =
    let is = ap numbered (c.library.ensures ∙ c.enter-held.ensures.same.1) in
    desk_end c.enter-held.result c.finish-answer.new.self c.library.result c.args.judged.case (seated c.args.seat.now) c.enter-held.ensures.found is (seated c.leave.new.seat)
    (saw c.args.seat.now c.enter-held.new.seat c.leave.new.seat c.enter-held.ensures.same c.leave.ensures.same c.finish-answer.new.self c.leave.ensures.seen c.leave.ensures.left) c.finish-answer.result c.finish-answer.ensures.same

pub returns-clause-begun : goal.returns-clause-begun
returns-clause-begun g c =
    let is = ap numbered (c.library.ensures ∙ c.enter-held.ensures.same.1) in
    begun_end c.enter-held.result c.finish-answer.new.self c.library.result c.args.judged.case (seated c.args.seat.now) c.enter-held.ensures.found is (seated c.leave.new.seat)
    (saw c.args.seat.now c.enter-held.new.seat c.leave.new.seat c.enter-held.ensures.same c.leave.ensures.same c.finish-answer.new.self c.leave.ensures.seen c.leave.ensures.left) c.finish-answer.result
    (c.leave.ensures.begun ∙ ap (marked c.finish-answer.new.self) c.enter-held.ensures.same.1) c.finish-answer.ensures.same

pub returns-clause-idle : goal.returns-clause-idle
returns-clause-idle g c =
    let is = ap numbered (c.library.ensures ∙ c.enter-held.ensures.same.1) in
    let at = is_library (seated c.args.seat.now) c.enter-held.result c.enter-held.ensures.found c.library.result is in
    idle_all c.enter-held.result c.finish-answer.new.self c.library.result c.args.judged.case c.finish-answer.result at.0 at.1 _ (sym c.library.ensures) c.leave.ensures.begun c.finish-answer.ensures.ends

pub returns-clause-seat : goal.returns-clause-seat
returns-clause-seat g c = (still_seat c.args.seat.now c.enter-held.new.seat c.leave.new.seat c.enter-held.ensures.same c.leave.ensures.same c.args.self.now c.requires.seat c.leave.ensures.given, same_seat c.args.seat.now c.enter-held.new.seat c.leave.new.seat c.enter-held.ensures.same c.leave.ensures.same)
