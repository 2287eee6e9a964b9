use Rattle.trio_calls_dir.proofs.Words.{◌<◌, ◌≡◌, BusyAt, Creds, Goes, Holder, LacksMemory, ListNames, MatchResult, Read, length, list_reply, listing_at, subst, sym}
use Rattle.trio_walk.specs.declared.outcome.Outcome.TheVariants.{Busy as IsBusyEnd}
use Rattle.trio_walk.proofs.Ways.{took_busy}
use Rattle.trio_calls_dir.proofs.ListsMet.{busy_goes, denied_goes, listed_goes, may_take, short_goes, taken_had}
use Rattle.trio_calls_dir.proofs.lists.list_unrefused.Goals as goal
use Rattle.trio_calls_dir.proofs.Walkable.{may_walk}

pub take-requires-clause-may : goal.take-requires-clause-may
take-requires-clause-may g c = may_walk (g.D.Desk.seen c.args.desk.now) c.args.session.now c.requires.may

pub take-requires-clause-fits : goal.take-requires-clause-fits
take-requires-clause-fits g c = may_take (g.D.Desk.seen c.args.desk.now) c.args.session.now c.args.met c.requires.unrefused

pub list_taken-requires : goal.list_taken-requires
list_taken-requires g c =
    taken_had g.D.Desk.called g.D.Desk.seen c.args.desk.now c.args.session.now c.args.met c.requires.may c.requires.unrefused c.take.new.desk c.take.new.session (rw c.in-Ok-true.field-0-test at c.in-Ok-true.ensures) c.requires.limits

pub returns-in-Ok-true-clause-goes : goal.returns-in-Ok-true-clause-goes
returns-in-Ok-true-clause-goes g c path comes =
    let t = rw c.in-Ok-true.field-0-test at c.in-Ok-true.ensures in
    let had = taken_had g.D.Desk.called g.D.Desk.seen c.args.desk.now c.args.session.now c.args.met c.requires.may c.requires.unrefused c.take.new.desk c.take.new.session t c.requires.limits in
    listed_goes g.D.Desk.called g.D.Desk.seen c.args.desk.now c.args.session.now path c.args.from c.args.met c.requires.may comes c.requires.unrefused c.take.new.desk c.take.new.session t had c.list_taken.new.session
    c.list_taken.ensures.kept c.list_taken.result
    (subst (λ (k : Creds). MatchResult c.list_taken.result (λ r. (r ≡ record { reply = list_reply k c.take.new.session c.args.met.ino c.args.from; made = 0 }) × (length c.list_taken.new.session.calls < c.list_taken.new.session.room.calls)) (λ stop. stop ≡ LacksMemory))
    c.creds.ensures.creds c.list_taken.ensures.ends)

pub returns-in-Ok-false-clause-goes : goal.returns-in-Ok-false-clause-goes
returns-in-Ok-false-clause-goes g c path comes =
    denied_goes g.D.Desk.called g.D.Desk.seen c.args.desk.now c.args.session.now path c.args.from c.args.met c.requires.may comes c.requires.unrefused c.take.new.desk c.take.new.session (rw c.in-Ok-false.field-0-test at c.in-Ok-false.ensures)
    c.noted_reply.new.session c.noted_reply.ensures.kept c.noted_reply.result c.noted_reply.ensures.ends

pub returns-in-Err-Busy-clause-goes : goal.returns-in-Err-Busy-clause-goes
returns-in-Err-Busy-clause-goes g c path comes =
    subst (λ (h : Holder). Goes g.D.Desk.called g.D.Desk.seen c.args.desk.now c.args.session.now (ListNames path c.args.from) (λ now. listing_at (g.D.Desk.seen c.args.desk.now).creds c.args.met) (IsBusyEnd h) 0 c.take.new.desk c.take.new.session)
    (sym c.in-Err-Busy.holder-is)
    (busy_goes g.D.Desk.called g.D.Desk.seen c.args.desk.now c.args.session.now path c.args.from c.args.met c.requires.may comes c.requires.unrefused c.take.new.desk c.take.new.session c.in-Err-Busy.holder
    (rw c.in-Err-Busy.field-0-is at c.in-Err-Busy.ensures))

pub returns-in-Err-Busy-clause-busy : goal.returns-in-Err-Busy-clause-busy
returns-in-Err-Busy-clause-busy g c =
    subst (λ (h : Holder). BusyAt (g.D.Desk.seen c.args.desk.now) c.args.session.now c.args.met.ino Read (IsBusyEnd h)) (sym c.in-Err-Busy.holder-is)
    (took_busy g.D.Desk.called g.D.Desk.seen c.args.desk.now c.args.session.now c.args.met Read c.requires.may.edits.on c.take.new.desk c.take.new.session c.in-Err-Busy.holder (rw c.in-Err-Busy.field-0-is at c.in-Err-Busy.ensures))

pub returns-in-Err-NoMemory-clause-goes : goal.returns-in-Err-NoMemory-clause-goes
returns-in-Err-NoMemory-clause-goes g c path comes =
    short_goes g.D.Desk.called g.D.Desk.seen c.args.desk.now c.args.session.now path c.args.from c.args.met c.requires.may comes c.requires.unrefused c.take.new.desk c.take.new.session
    (rw c.in-Err-NoMemory.field-0-is at c.in-Err-NoMemory.ensures)

pub unreachable-requires : goal.unreachable-requires
unreachable-requires g c = (let wrong = rw c.in-Err-At.field-0-is at c.in-Err-At.ensures in wrong.taken)

pub unreachable-requires-in-Err-Reply : goal.unreachable-requires-in-Err-Reply
unreachable-requires-in-Err-Reply g c = (let wrong = rw c.in-Err-Reply.field-0-is at c.in-Err-Reply.ensures in wrong.taken)
