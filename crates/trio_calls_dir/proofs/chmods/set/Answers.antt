use Rattle.trio_calls_dir.proofs.ChmodsEnds.{comes_back, set_done, set_done_may, set_refused, set_refused_may}
use Rattle.trio_calls_dir.proofs.chmods.set.Goals as goal

pub returns-in-Ok-clause-may : goal.returns-in-Ok-clause-may
returns-in-Ok-clause-may g c =
    set_done_may g.D.Desk.called g.D.Desk.seen c.args.desk.now c.set_mode.new.desk c.args.session.now c.set_mode.new.self c.args.ino c.args.mode c.args.what.0 c.set_mode.result c.set_mode.ensures.call c.in-Ok.field-0 c.in-Ok.is c.set_mode.ensures.on

pub returns-in-Ok-clause-asked : goal.returns-in-Ok-clause-asked
returns-in-Ok-clause-asked g c =
    set_done g.D.Desk.called g.D.Desk.seen c.args.desk.now c.set_mode.new.desk c.args.session.now c.set_mode.new.self c.args.ino c.args.mode c.args.what.0 c.set_mode.result c.set_mode.ensures.call c.in-Ok.field-0 c.in-Ok.is

pub returns-in-Err-clause-may : goal.returns-in-Err-clause-may
returns-in-Err-clause-may g c =
    set_refused_may g.D.Desk.called g.D.Desk.seen c.args.desk.now c.set_mode.new.desk c.args.session.now c.set_mode.new.self c.args.ino c.args.mode c.args.what.0 c.set_mode.result c.set_mode.ensures.call c.in-Err.back c.in-Err.fault c.in-Err.is c.requires.may c.set_mode.ensures.on

pub returns-in-Err-clause-asked : goal.returns-in-Err-clause-asked
returns-in-Err-clause-asked g c =
    set_refused g.D.Desk.called g.D.Desk.seen c.args.desk.now c.set_mode.new.desk c.args.session.now c.set_mode.new.self c.args.ino c.args.mode c.args.what.0 c.set_mode.result c.set_mode.ensures.call c.in-Err.back c.in-Err.fault c.in-Err.is c.unset.result c.unset.ensures c.requires.may.edits.on c.requires.alone

pub unset-requires : goal.unset-requires
unset-requires g c =
    comes_back g.D.Desk.called g.D.Desk.seen c.args.desk.now c.set_mode.new.desk c.args.session.now c.set_mode.new.self c.args.ino c.args.mode c.args.what.0 c.set_mode.result c.set_mode.ensures.call c.in-Err.back c.in-Err.fault c.in-Err.is c.requires.refuses
