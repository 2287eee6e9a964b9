use Rattle.trio_shared.proofs.Words.{◌∙◌, ◌≡◌, Calls, CaseShown, HasBegun, MarksStand, NotJudged, ap, handed_in, inl, inr, parcel_of, seated, subst, sym}
use Rattle.std.proofs.Common.{rules}
use Rattle.trio_desk.specs.Call.{Judged, Release}
use Rattle.trio_nodes.specs.declared.answers.ReleaseFault.TheVariants.{NoMemory}
use Rattle.trio_shared.specs.Pooled.{UsesPass}
use Rattle.trio_shared.proofs.Mailed.{is_for}
use Rattle.trio_shared.proofs.Releases.{call_back, handed_same, has_begun, marks_begun, may_end, one_call, parcel_same, seen_one, was_begun}
use Rattle.trio_shared.proofs.pool_desk.PoolDeskDesk.release.Goals as goal

pub returns-in-Err-clause-called : goal.returns-in-Err-clause-called
returns-in-Err-clause-called g c =
    let old = seated c.args.self.now.desk.seat.now in
    let new = seated c.make_room-room.new.seat in
    let back : Calls old (Release (parcel_of c.args.bundle)) (NotJudged NoMemory) new = call_back old new c.args.bundle NoMemory c.make_room-room.ensures.looked c.requires in
    search rules

pub returns-in-Err-begin-clause-called : goal.returns-in-Err-begin-clause-called
returns-in-Err-begin-clause-called g c =
    let old = seated c.args.self.now.desk.seat.now in
    let new = seated c.begin.new.seat in
    let back : Calls old (Release (parcel_of c.args.bundle)) (NotJudged c.in-Err-begin.back.1) new = call_back old new c.args.bundle c.in-Err-begin.back.1 c.in-Err-begin.ensures.looked c.requires in
    search rules

pub await_end-requires-clause-mail : goal.await_end-requires-clause-mail
await_end-requires-clause-mail g c = let d = c.args.self.now in is_for d.mails.now d.mail.now d.is_mail

pub await_end-requires-clause-marks : goal.await_end-requires-clause-marks
await_end-requires-clause-marks g c =
    let old = seated c.args.self.now.desk.seat.now in
    let mid = seated c.begin.new.seat in
    subst (MarksStand mid) (sym c.in-Ok.ensures)
    (marks_begun old mid c.args.bundle c.in-Ok-begin.pending c.in-Ok-begin.ensures.looked c.requires c.lent_is_marked.ensures.law c.keeps_untouched.ensures)

pub end_here-requires-clause-begun : goal.end_here-requires-clause-begun
end_here-requires-clause-begun g c =
    let old = seated c.args.self.now.desk.seat.now in
    let mid = seated c.begin.new.seat in
    subst (HasBegun mid) (sym c.in-Err-submit.ensures.sent.0)
    (has_begun old mid c.args.bundle c.in-Ok-begin.pending c.in-Ok-begin.ensures.looked c.requires c.in-Ok-begin.ensures.begun c.begin.ensures.seen)

pub end_here-requires-clause-marked : goal.end_here-requires-clause-marked
end_here-requires-clause-marked g c =
    let old = seated c.args.self.now.desk.seat.now in
    let mid = seated c.begin.new.seat in
    let p = c.in-Ok-begin.pending in
    let same : handed_in c.in-Err-submit.pending.bundle ≡ handed_in c.args.bundle =
    ap (λ (k : CaseShown). handed_in k.bundle) c.in-Err-submit.ensures.sent.0 ∙ handed_same old mid c.args.bundle p c.in-Ok-begin.ensures.looked in
    may_end mid c.in-Err-submit.pending (handed_in c.args.bundle) (sym same) (marks_begun old mid c.args.bundle p c.in-Ok-begin.ensures.looked c.requires c.lent_is_marked.ensures.law c.keeps_untouched.ensures)

pub returns-in-Ok-submit-clause-called : goal.returns-in-Ok-submit-clause-called
returns-in-Ok-submit-clause-called g c =
    let old = seated c.args.self.now.desk.seat.now in
    let mid = seated c.begin.new.seat in
    let p = c.in-Ok-begin.pending in
    let looked = c.in-Ok-begin.ensures.looked in
    let e = c.await_end.ensures.ends in
    let answer = c.await_end.result in
    let one : Calls old (Release (parcel_of c.args.bundle)) (Judged answer) (seated c.await_end.new.seat) =
    one_call old mid c.args.bundle e.0 looked (e.1 ∙ c.in-Ok.ensures) c.requires answer (seated c.await_end.new.seat) e.2 in
    let s = c.in-Ok-submit.ensures in
    let uses : UsesPass old (Release (parcel_of c.args.bundle)) (Judged answer) c.args.self.now.pass.now c.submit.new.pass =
    (s.same.0, s.same.1, p, parcel_same old mid c.args.bundle p looked, was_begun old mid c.args.bundle p looked, inl s.sent) in
    search rules

pub returns-in-Ok-submit-clause-seen : goal.returns-in-Ok-submit-clause-seen
returns-in-Ok-submit-clause-seen g c =
    let old = seated c.args.self.now.desk.seat.now in
    let e = c.await_end.ensures.ends in
    seen_one old (seated c.begin.new.seat) c.args.bundle e.0 c.in-Ok-begin.ensures.looked (e.1 ∙ c.in-Ok.ensures) c.requires c.await_end.result (seated c.await_end.new.seat) e.2

pub returns-clause-called : goal.returns-clause-called
returns-clause-called g c =
    let old = seated c.args.self.now.desk.seat.now in
    let mid = seated c.begin.new.seat in
    let p = c.in-Ok-begin.pending in
    let looked = c.in-Ok-begin.ensures.looked in
    let answer = c.end_here.result in
    let same : handed_in c.in-Err-submit.pending.bundle ≡ handed_in c.args.bundle =
    ap (λ (k : CaseShown). handed_in k.bundle) c.in-Err-submit.ensures.sent.0 ∙ handed_same old mid c.args.bundle p looked in
    let one : Calls old (Release (parcel_of c.args.bundle)) (Judged answer) (seated c.end_here.new.seat) =
    one_call old mid c.args.bundle c.in-Err-submit.pending looked same c.requires answer (seated c.end_here.new.seat) c.end_here.ensures.ends in
    let s = c.in-Err-submit.ensures in
    let uses : UsesPass old (Release (parcel_of c.args.bundle)) (Judged answer) c.args.self.now.pass.now c.submit.new.pass =
    (s.same.0, s.same.1, p, parcel_same old mid c.args.bundle p looked, was_begun old mid c.args.bundle p looked, inr s.fulls) in
    search rules

pub returns-clause-seen : goal.returns-clause-seen
returns-clause-seen g c =
    let old = seated c.args.self.now.desk.seat.now in
    let mid = seated c.begin.new.seat in
    let p = c.in-Ok-begin.pending in
    let looked = c.in-Ok-begin.ensures.looked in
    let same : handed_in c.in-Err-submit.pending.bundle ≡ handed_in c.args.bundle =
    ap (λ (k : CaseShown). handed_in k.bundle) c.in-Err-submit.ensures.sent.0 ∙ handed_same old mid c.args.bundle p looked in
    seen_one old mid c.args.bundle c.in-Err-submit.pending looked same c.requires c.end_here.result (seated c.end_here.new.seat) c.end_here.ensures.ends
