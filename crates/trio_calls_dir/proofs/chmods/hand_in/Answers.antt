use Rattle.trio_calls_dir.proofs.ChmodsEnds.{handed, handed_may, noted_may, room_may, unhanded, unhanded_may}
use Rattle.trio_calls_dir.proofs.chmods.hand_in.Goals as goal
use Rattle.trio_edit_laws.proofs.Called.{may_be_settled}

pub returns-then-is_err-clause-may : goal.returns-then-is_err-clause-may
returns-then-is_err-clause-may g c =
    room_may g.D.Desk.called g.D.Desk.seen c.args.desk.now c.args.session.now c.args.what.0 c.args.reply c.requires.may c.requires.alone c.requires.refused _ c.reserve_call.new.self c.reserve_call.ensures.kept

pub settle-requires-clause-on : goal.settle-requires-clause-on
settle-requires-clause-on g c =
    (noted_may g.D.Desk.called g.D.Desk.seen c.args.desk.now c.args.session.now c.args.what.0 c.args.reply c.requires.may c.requires.alone c.requires.refused _ c.reserve_call.new.self c.reserve_call.ensures.kept c.in-Ok.noted c.in-Ok.ensures.same c.note.new.self c.note.ensures).edits.on

pub settle-requires-clause-ready : goal.settle-requires-clause-ready
settle-requires-clause-ready g c =
    may_be_settled (g.D.Desk.seen c.args.desk.now) c.note.new.self
    (noted_may g.D.Desk.called g.D.Desk.seen c.args.desk.now c.args.session.now c.args.what.0 c.args.reply c.requires.may c.requires.alone c.requires.refused _ c.reserve_call.new.self c.reserve_call.ensures.kept c.in-Ok.noted c.in-Ok.ensures.same c.note.new.self c.note.ensures)

pub returns-in-Ok-settle-clause-may : goal.returns-in-Ok-settle-clause-may
returns-in-Ok-settle-clause-may g c =
    handed_may g.D.Desk.called g.D.Desk.seen c.args.desk.now c.args.session.now c.args.what.0 c.args.reply c.requires.may c.requires.alone c.requires.refused _ c.reserve_call.new.self c.reserve_call.ensures.kept c.in-Ok.noted c.in-Ok.ensures.same c.note.new.self c.note.ensures
    c.settle.new.desk c.settle.new.self c.settle.result c.settle.ensures.call c.settle.ensures.on

pub returns-in-Ok-settle-clause-handed : goal.returns-in-Ok-settle-clause-handed
returns-in-Ok-settle-clause-handed g c =
    handed g.D.Desk.called g.D.Desk.seen c.args.desk.now c.args.session.now c.args.what.0 c.args.reply c.requires.may c.requires.alone c.requires.refused _ c.reserve_call.new.self c.reserve_call.ensures.kept c.in-Ok.noted c.in-Ok.ensures.same c.note.new.self c.note.ensures
    c.settle.new.desk c.settle.new.self c.settle.result c.settle.ensures.call c.settle.ensures.on c.in-Ok-settle.field-0 c.in-Ok-settle.is

pub returns-in-Err-clause-may : goal.returns-in-Err-clause-may
returns-in-Err-clause-may g c =
    unhanded_may g.D.Desk.called g.D.Desk.seen c.args.desk.now c.args.session.now c.args.what.0 c.args.reply c.requires.may c.requires.alone c.requires.refused _ c.reserve_call.new.self c.reserve_call.ensures.kept c.in-Ok.noted c.in-Ok.ensures.same c.note.new.self c.note.ensures
    c.settle.new.desk c.settle.new.self c.settle.result c.settle.ensures.call c.settle.ensures.on c.in-Err.field-0 c.in-Err.is c.unnote.new.self c.unnote.result c.unnote.ensures

pub returns-in-Err-clause-handed : goal.returns-in-Err-clause-handed
returns-in-Err-clause-handed g c =
    unhanded g.D.Desk.called g.D.Desk.seen c.args.desk.now c.args.session.now c.args.what.0 c.args.reply c.requires.may c.requires.alone c.requires.refused _ c.reserve_call.new.self c.reserve_call.ensures.kept c.in-Ok.noted c.in-Ok.ensures.same c.note.new.self c.note.ensures
    c.settle.new.desk c.settle.new.self c.settle.result c.settle.ensures.call c.settle.ensures.on c.in-Err.field-0 c.in-Err.is c.unnote.new.self c.unnote.result c.unnote.ensures
