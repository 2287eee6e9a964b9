use Rattle.trio_calls_dir.proofs.Words.{◌∙◌, Busy, Goes, Hold, Holder, NeedsBusyAt, Ok, Took, ap, moving_needs, number_made, subst, sym, try_ends}
use Rattle.trio_calls_dir.proofs.MovesHeld.{busy_goes, held_goes, hold_off, itself_goes, may_hold, may_move, short_goes}
use Rattle.trio_calls_dir.proofs.moves.move_across.Goals as goal
use Rattle.trio_calls_dir.proofs.Walkable.{may_walk}

pub returns-then-file-new_dir-clause-goes : goal.returns-then-file-new_dir-clause-goes
returns-then-file-new_dir-clause-goes g c =
    itself_goes g.D.Desk.called g.D.Desk.seen c.args.desk.now c.args.session.now c.args.call.now c.args.from.now c.args.to.now c.args.dir c.args.new_dir c.args.file c.requires.rename c.requires.across c.requires.found c.requires.free c.if-file-new_dir.true c.noted_reply.new.session c.noted_reply.ensures.kept c.noted_reply.result c.noted_reply.ensures.ends

pub take-requires-clause-may : goal.take-requires-clause-may
take-requires-clause-may g c = may_walk (g.D.Desk.seen c.args.desk.now) c.args.session.now c.requires.across.may

pub take-requires-clause-fits : goal.take-requires-clause-fits
take-requires-clause-fits g c = may_hold g.D.Desk.called g.D.Desk.seen c.args.desk.now c.args.session.now c.args.call.now c.args.from.now c.args.to.now c.args.dir c.args.new_dir c.args.file c.requires.rename c.requires.across c.requires.found c.requires.free

pub move_held-requires-clause-moves : goal.move_held-requires-clause-moves
move_held-requires-clause-moves g c =
    may_move g.D.Desk.called g.D.Desk.seen c.args.desk.now c.args.session.now c.args.call.now c.args.from.now c.args.to.now c.args.dir c.args.new_dir c.args.file c.requires.rename c.requires.across c.requires.found c.requires.free c.requires.apart c.take.new.desk c.take.new.session
    (subst (λ x. Took g.D.Desk.called g.D.Desk.seen c.args.desk.now c.args.session.now c.args.file Hold x c.take.new.desk c.take.new.session) (c.in-Ok-true.is ∙ ap Ok c.in-Ok-true.field-0-test) c.take.ensures)
    (λ same. c.if-file-new_dir.false (sym same))

pub returns-in-Ok-true-clause-goes : goal.returns-in-Ok-true-clause-goes
returns-in-Ok-true-clause-goes g c =
    held_goes g.D.Desk.called g.D.Desk.seen c.args.desk.now c.args.session.now c.args.call.now c.args.from.now c.args.to.now c.args.dir c.args.new_dir c.args.file c.requires.rename c.requires.across c.requires.found c.requires.free c.requires.apart c.take.new.desk c.take.new.session
    (subst (λ x. Took g.D.Desk.called g.D.Desk.seen c.args.desk.now c.args.session.now c.args.file Hold x c.take.new.desk c.take.new.session) (c.in-Ok-true.is ∙ ap Ok c.in-Ok-true.field-0-test) c.take.ensures)
    (try_ends c.move_held.result) (number_made c.move_held.result) c.move_held.new.desk c.move_held.new.session c.move_held.ensures.goes

pub returns-in-Err-Busy-clause-goes : goal.returns-in-Err-Busy-clause-goes
returns-in-Err-Busy-clause-goes g c =
    subst (λ (h : Holder). Goes g.D.Desk.called g.D.Desk.seen c.args.desk.now c.args.session.now c.args.call.now (λ now. moving_needs now c.args.from.now c.args.to.now c.args.dir c.args.new_dir) (Busy h) 0 c.take.new.desk c.take.new.session) (sym c.in-Err-Busy.holder-is)
    (busy_goes g.D.Desk.called g.D.Desk.seen c.args.desk.now c.args.session.now c.args.call.now c.args.from.now c.args.to.now c.args.dir c.args.new_dir c.args.file c.requires.rename c.requires.across c.requires.found c.requires.free c.requires.apart c.take.new.desk c.take.new.session c.in-Err-Busy.holder (rw c.in-Err-Busy.field-0-is at c.in-Err-Busy.ensures))

pub returns-in-Err-Busy-clause-busy : goal.returns-in-Err-Busy-clause-busy
returns-in-Err-Busy-clause-busy g c =
    subst (λ (h : Holder). NeedsBusyAt (g.D.Desk.seen c.args.desk.now) c.args.session.now (λ now. moving_needs now c.args.from.now c.args.to.now c.args.dir c.args.new_dir) (Busy h)) (sym c.in-Err-Busy.holder-is)
    (hold_off g.D.Desk.called g.D.Desk.seen c.args.desk.now c.args.session.now c.args.call.now c.args.from.now c.args.to.now c.args.dir c.args.new_dir c.args.file c.requires.rename c.requires.across c.requires.found c.requires.free c.requires.apart c.take.new.desk c.take.new.session c.in-Err-Busy.holder (rw c.in-Err-Busy.field-0-is at c.in-Err-Busy.ensures))

pub returns-in-Err-NoMemory-clause-goes : goal.returns-in-Err-NoMemory-clause-goes
returns-in-Err-NoMemory-clause-goes g c = short_goes g.D.Desk.called g.D.Desk.seen c.args.desk.now c.args.session.now c.args.call.now c.args.from.now c.args.to.now c.args.dir c.args.new_dir c.args.file c.requires.rename c.requires.across c.requires.found c.requires.free c.requires.apart c.take.new.desk c.take.new.session (rw c.in-Err-NoMemory.field-0-is at c.in-Err-NoMemory.ensures)
