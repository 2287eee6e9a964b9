use Rattle.trio_calls_file.proofs.Words.{CallBusyAt, Goes, GrantKind, Holder, MayTake, asks_at, subst, sym}
use Rattle.trio_walk.specs.declared.outcome.Outcome.TheVariants.{Busy as IsBusyEnd}
use Rattle.trio_calls_file.proofs.AtFile.{busy_goes, busy_stopped, comes_still, may_take, root_denied_goes, short_goes, taken_goes, taken_had, taken_kind, taken_limits, taken_may, taken_met, unchecked_still}
use Rattle.trio_calls_file.proofs.Walkable.{may_walk}
use Rattle.trio_calls_file.proofs.files.at_unrefused.Goals as goal

pub take-requires-clause-may : goal.take-requires-clause-may
take-requires-clause-may g c = may_walk (g.D.Desk.seen c.args.desk.now) c.args.session.now c.requires.may

pub take-requires-clause-fits : goal.take-requires-clause-fits
take-requires-clause-fits g c =
    subst (λ (k : GrantKind). MayTake (g.D.Desk.seen c.args.desk.now) c.args.session.now c.args.met k) (sym c.grant_for.ensures)
    (may_take (g.D.Desk.seen c.args.desk.now) c.args.session.now c.args.met c.args.call.now c.requires.file c.requires.unrefused)

pub at_taken-requires : goal.at_taken-requires
at_taken-requires g c =
    let called = g.D.Desk.called in
    let seen = g.D.Desk.seen in
    let d = c.args.desk.now in
    let s = c.args.session.now in
    let r = c.requires in
    let t = rw c.grant_for.ensures at (rw c.in-Ok-true.field-0-test at c.in-Ok-true.ensures) in
    record {
      may = taken_may called seen d s c.args.call.now c.args.met r.may r.met r.comes r.file r.unrefused c.take.new.desk c.take.new.session t;
      met = taken_met called seen d s c.args.call.now c.args.met r.may r.met r.comes r.file r.unrefused c.take.new.desk c.take.new.session t;
      file = r.file;
      comes = comes_still called seen d s c.args.call.now c.args.met r.may r.met r.comes r.file r.unrefused c.take.new.desk c.take.new.session t;
      limits = taken_limits called seen d s c.args.call.now c.args.met r.may r.met r.comes r.file r.unrefused c.take.new.desk c.take.new.session t r.limits;
      unrefused = unchecked_still called seen d s c.args.call.now c.args.met r.may r.met r.comes r.file r.unrefused c.take.new.desk c.take.new.session t;
      had = taken_had called seen d s c.args.call.now c.args.met r.may r.met r.comes r.file r.unrefused c.take.new.desk c.take.new.session t r.limits;
      taken = t.taken.2.served;
      shown = taken_kind called seen d s c.args.call.now c.args.met r.may r.met r.comes r.file r.unrefused c.take.new.desk c.take.new.session t;
    }

pub returns-in-Ok-true-clause-goes : goal.returns-in-Ok-true-clause-goes
returns-in-Ok-true-clause-goes g c =
    let t = rw c.grant_for.ensures at (rw c.in-Ok-true.field-0-test at c.in-Ok-true.ensures) in
    taken_goes g.D.Desk.called g.D.Desk.seen c.args.desk.now c.args.session.now c.args.call.now c.args.met c.requires.may c.requires.met c.requires.comes c.requires.file c.requires.unrefused c.take.new.desk c.take.new.session t _ c.at_taken.new.desk c.at_taken.new.session c.at_taken.ensures.goes

pub returns-in-Ok-false-clause-goes : goal.returns-in-Ok-false-clause-goes
returns-in-Ok-false-clause-goes g c =
    let t = rw c.grant_for.ensures at (rw c.in-Ok-false.field-0-test at c.in-Ok-false.ensures) in
    root_denied_goes g.D.Desk.called g.D.Desk.seen c.args.desk.now c.args.session.now c.args.call.now c.args.met c.requires.may c.requires.met c.requires.comes c.requires.file c.requires.unrefused c.take.new.desk c.take.new.session t c.noted_reply.new.session c.noted_reply.ensures.kept c.noted_reply.result c.noted_reply.ensures.ends

pub returns-in-Err-Busy-clause-goes : goal.returns-in-Err-Busy-clause-goes
returns-in-Err-Busy-clause-goes g c =
    let t = rw c.grant_for.ensures at (rw c.in-Err-Busy.field-0-is at c.in-Err-Busy.ensures) in
    subst (λ (h : Holder). Goes g.D.Desk.called g.D.Desk.seen c.args.desk.now c.args.session.now c.args.call.now c.args.met.ino (asks_at (g.D.Desk.seen c.args.desk.now).creds c.args.session.now c.args.met c.args.call.now) (IsBusyEnd h) c.take.new.desk c.take.new.session) (sym c.in-Err-Busy.holder-is)
    (busy_goes g.D.Desk.called g.D.Desk.seen c.args.desk.now c.args.session.now c.args.call.now c.args.met c.requires.may c.requires.met c.requires.comes c.requires.file c.requires.unrefused c.take.new.desk c.take.new.session c.in-Err-Busy.holder t)

pub returns-in-Err-Busy-clause-busy : goal.returns-in-Err-Busy-clause-busy
returns-in-Err-Busy-clause-busy g c =
    let t = rw c.grant_for.ensures at (rw c.in-Err-Busy.field-0-is at c.in-Err-Busy.ensures) in
    subst (λ (h : Holder). CallBusyAt (g.D.Desk.seen c.args.desk.now) c.args.session.now c.args.met c.args.call.now (IsBusyEnd h)) (sym c.in-Err-Busy.holder-is)
    (busy_stopped g.D.Desk.called g.D.Desk.seen c.args.desk.now c.args.session.now c.args.call.now c.args.met c.take.new.desk c.take.new.session c.in-Err-Busy.holder c.requires.may c.requires.file c.requires.unrefused t)

pub returns-in-Err-NoMemory-clause-goes : goal.returns-in-Err-NoMemory-clause-goes
returns-in-Err-NoMemory-clause-goes g c =
    let t = rw c.grant_for.ensures at (rw c.in-Err-NoMemory.field-0-is at c.in-Err-NoMemory.ensures) in
    short_goes g.D.Desk.called g.D.Desk.seen c.args.desk.now c.args.session.now c.args.call.now c.args.met c.requires.may c.requires.met c.requires.comes c.requires.file c.requires.unrefused c.take.new.desk c.take.new.session t

pub unreachable-requires : goal.unreachable-requires
unreachable-requires g c = (let wrong = rw c.in-Err-At.field-0-is at c.in-Err-At.ensures in wrong.taken)

pub unreachable-requires-in-Err-Reply : goal.unreachable-requires-in-Err-Reply
unreachable-requires-in-Err-Reply g c = (let wrong = rw c.in-Err-Reply.field-0-is at c.in-Err-Reply.ensures in wrong.taken)
