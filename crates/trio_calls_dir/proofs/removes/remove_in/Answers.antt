use Rattle.trio_calls_dir.proofs.Words.{◌∙◌, Busy, BusyAt, Goes, Hold, Holder, Ok, Some, Took, ap, name_of, named_needs, number_made, removing_needs, subst, sym, try_ends, is_directory}
use Rattle.trio_walk.proofs.Ways.{took_busy}
use Rattle.trio_calls_dir.proofs.RemovesTake.{busy_goes, held_goes, may_clear, may_hold, short_goes}
use Rattle.trio_calls_dir.proofs.RemovesClear.{above_none, cleared_goes, full_goes, there_some}
use Rattle.trio_calls_dir.proofs.removes.remove_in.Goals as goal
use Rattle.trio_calls_dir.proofs.Walkable.{may_walk}

pub take-requires-clause-may : goal.take-requires-clause-may
take-requires-clause-may g c = may_walk (g.D.Desk.seen c.args.desk.now) c.args.session.now c.requires.may

pub take-requires-clause-fits : goal.take-requires-clause-fits
take-requires-clause-fits g c = may_hold g.D.Desk.called g.D.Desk.seen c.args.desk.now c.args.session.now c.args.call.now c.args.path.now c.args.dir c.args.file (record { may = c.requires.may; call = c.requires.call; root = c.requires.root; opens = c.requires.open; comes = c.requires.comes; entry = c.requires.entry; met = c.requires.met; named = c.requires.named })

pub clear_held-requires-clause-open : goal.clear_held-requires-clause-open
clear_held-requires-clause-open g c = (may_clear g.D.Desk.called g.D.Desk.seen c.args.desk.now c.args.session.now c.args.call.now c.args.path.now c.args.dir c.args.file (record { may = c.requires.may; call = c.requires.call; root = c.requires.root; opens = c.requires.open; comes = c.requires.comes; entry = c.requires.entry; met = c.requires.met; named = c.requires.named }) c.take.new.desk c.take.new.session (subst (λ x. Took g.D.Desk.called g.D.Desk.seen c.args.desk.now c.args.session.now c.args.file Hold x c.take.new.desk c.take.new.session) (c.in-Ok-true.is ∙ ap Ok c.in-Ok-true.field-0-test) c.take.ensures)).opens

pub clear_held-requires-clause-there : goal.clear_held-requires-clause-there
clear_held-requires-clause-there g c = there_some g.D.Desk.called g.D.Desk.seen c.take.new.desk c.take.new.session c.args.call.now c.args.path.now c.args.dir c.args.file (may_clear g.D.Desk.called g.D.Desk.seen c.args.desk.now c.args.session.now c.args.call.now c.args.path.now c.args.dir c.args.file (record { may = c.requires.may; call = c.requires.call; root = c.requires.root; opens = c.requires.open; comes = c.requires.comes; entry = c.requires.entry; met = c.requires.met; named = c.requires.named }) c.take.new.desk c.take.new.session (subst (λ x. Took g.D.Desk.called g.D.Desk.seen c.args.desk.now c.args.session.now c.args.file Hold x c.take.new.desk c.take.new.session) (c.in-Ok-true.is ∙ ap Ok c.in-Ok-true.field-0-test) c.take.ensures))

pub returns-in-Some-eq0-clause-goes : goal.returns-in-Some-eq0-clause-goes
returns-in-Some-eq0-clause-goes g c =
    held_goes g.D.Desk.called g.D.Desk.seen c.args.desk.now c.args.session.now c.args.call.now c.args.path.now c.args.dir c.args.file (record { may = c.requires.may; call = c.requires.call; root = c.requires.root; opens = c.requires.open; comes = c.requires.comes; entry = c.requires.entry; met = c.requires.met; named = c.requires.named }) c.take.new.desk c.take.new.session (subst (λ x. Took g.D.Desk.called g.D.Desk.seen c.args.desk.now c.args.session.now c.args.file Hold x c.take.new.desk c.take.new.session) (c.in-Ok-true.is ∙ ap Ok c.in-Ok-true.field-0-test) c.take.ensures) (try_ends c.clear_held.result) (number_made c.clear_held.result) c.take.new.desk c.clear_held.new.session
    (cleared_goes g.D.Desk.called g.D.Desk.seen c.take.new.desk c.take.new.session c.args.call.now c.args.path.now c.args.dir c.args.file (may_clear g.D.Desk.called g.D.Desk.seen c.args.desk.now c.args.session.now c.args.call.now c.args.path.now c.args.dir c.args.file (record { may = c.requires.may; call = c.requires.call; root = c.requires.root; opens = c.requires.open; comes = c.requires.comes; entry = c.requires.entry; met = c.requires.met; named = c.requires.named }) c.take.new.desk c.take.new.session (subst (λ x. Took g.D.Desk.called g.D.Desk.seen c.args.desk.now c.args.session.now c.args.file Hold x c.take.new.desk c.take.new.session) (c.in-Ok-true.is ∙ ap Ok c.in-Ok-true.field-0-test) c.take.ensures)) (sym c.children.ensures ∙ c.in-Some-eq0.is ∙ ap Some c.in-Some-eq0.field-0-test) c.clear_held.new.session c.clear_held.result c.clear_held.ensures.ends)

pub returns-in-Some-clause-goes : goal.returns-in-Some-clause-goes
returns-in-Some-clause-goes g c =
    held_goes g.D.Desk.called g.D.Desk.seen c.args.desk.now c.args.session.now c.args.call.now c.args.path.now c.args.dir c.args.file (record { may = c.requires.may; call = c.requires.call; root = c.requires.root; opens = c.requires.open; comes = c.requires.comes; entry = c.requires.entry; met = c.requires.met; named = c.requires.named }) c.take.new.desk c.take.new.session (subst (λ x. Took g.D.Desk.called g.D.Desk.seen c.args.desk.now c.args.session.now c.args.file Hold x c.take.new.desk c.take.new.session) (c.in-Ok-true.is ∙ ap Ok c.in-Ok-true.field-0-test) c.take.ensures) (try_ends c.noted_reply.result) (number_made c.noted_reply.result) c.take.new.desk c.noted_reply.new.session
    (full_goes g.D.Desk.called g.D.Desk.seen c.take.new.desk c.take.new.session c.args.call.now c.args.path.now c.args.dir c.args.file (may_clear g.D.Desk.called g.D.Desk.seen c.args.desk.now c.args.session.now c.args.call.now c.args.path.now c.args.dir c.args.file (record { may = c.requires.may; call = c.requires.call; root = c.requires.root; opens = c.requires.open; comes = c.requires.comes; entry = c.requires.entry; met = c.requires.met; named = c.requires.named }) c.take.new.desk c.take.new.session (subst (λ x. Took g.D.Desk.called g.D.Desk.seen c.args.desk.now c.args.session.now c.args.file Hold x c.take.new.desk c.take.new.session) (c.in-Ok-true.is ∙ ap Ok c.in-Ok-true.field-0-test) c.take.ensures)) c.in-Some.field-0 (sym c.children.ensures ∙ c.in-Some.is) (above_none c.in-Some.field-0 c.in-Some.field-0-test.1) c.noted_reply.new.session c.noted_reply.ensures.kept c.noted_reply.result c.noted_reply.ensures.ends)

pub returns-in-Err-Busy-clause-goes : goal.returns-in-Err-Busy-clause-goes
returns-in-Err-Busy-clause-goes g c =
    subst (λ (h : Holder). Goes g.D.Desk.called g.D.Desk.seen c.args.desk.now c.args.session.now c.args.call.now (λ now. named_needs now c.args.dir (name_of c.args.path.now) (removing_needs (is_directory c.args.file.kind))) (Busy h) 0 c.take.new.desk c.take.new.session) (sym c.in-Err-Busy.holder-is)
    (busy_goes g.D.Desk.called g.D.Desk.seen c.args.desk.now c.args.session.now c.args.call.now c.args.path.now c.args.dir c.args.file (record { may = c.requires.may; call = c.requires.call; root = c.requires.root; opens = c.requires.open; comes = c.requires.comes; entry = c.requires.entry; met = c.requires.met; named = c.requires.named }) c.take.new.desk c.take.new.session c.in-Err-Busy.holder (rw c.in-Err-Busy.field-0-is at c.in-Err-Busy.ensures))

pub returns-in-Err-Busy-clause-others : goal.returns-in-Err-Busy-clause-others
returns-in-Err-Busy-clause-others g c =
    subst (λ (h : Holder). BusyAt (g.D.Desk.seen c.args.desk.now) c.args.session.now c.args.file.ino Hold (Busy h)) (sym c.in-Err-Busy.holder-is)
    (took_busy g.D.Desk.called g.D.Desk.seen c.args.desk.now c.args.session.now c.args.file Hold c.requires.may.edits.on c.take.new.desk c.take.new.session c.in-Err-Busy.holder (rw c.in-Err-Busy.field-0-is at c.in-Err-Busy.ensures))

pub returns-in-Err-NoMemory-clause-goes : goal.returns-in-Err-NoMemory-clause-goes
returns-in-Err-NoMemory-clause-goes g c = short_goes g.D.Desk.called g.D.Desk.seen c.args.desk.now c.args.session.now c.args.call.now c.args.path.now c.args.dir c.args.file (record { may = c.requires.may; call = c.requires.call; root = c.requires.root; opens = c.requires.open; comes = c.requires.comes; entry = c.requires.entry; met = c.requires.met; named = c.requires.named }) c.take.new.desk c.take.new.session (rw c.in-Err-NoMemory.field-0-is at c.in-Err-NoMemory.ensures)
