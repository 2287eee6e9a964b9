use Rattle.trio_calls_dir.proofs.Words.{may_settled, settle_may, settled}
use Rattle.trio_walk.proofs.Retrying.{nothing_left}
use Rattle.trio_calls_dir.specs.Chmods.{Begun}
use Rattle.trio_calls_dir.proofs.chmods.chmod.Goals as goal

pub retry-requires : goal.retry-requires
retry-requires g c =
    let t = (settled g.D.Desk.called g.D.Desk.seen c.args.desk.now c.settle.new.desk c.args.session.now c.settle.new.self c.settle.result c.settle.ensures.call c.settle.ensures.on c.in-Ok.field-0 c.in-Ok.is).0 in
    record { begins = (c.requires.mode, may_settled (g.D.Desk.seen c.settle.new.desk) c.args.session.now c.settle.new.self t.empty c.settle.ensures.on, nothing_left c.args.session.now c.settle.new.self t.empty) }

pub returns-in-Ok-clause-called : goal.returns-in-Ok-clause-called
returns-in-Ok-clause-called g c =
    let t = settled g.D.Desk.called g.D.Desk.seen c.args.desk.now c.settle.new.desk c.args.session.now c.settle.new.self c.settle.result c.settle.ensures.call c.settle.ensures.on c.in-Ok.field-0 c.in-Ok.is in
    Begun c.settle.new.desk c.settle.new.self t.0 c.retry.ensures.called

pub returns-in-Err-clause-may : goal.returns-in-Err-clause-may
returns-in-Err-clause-may g c =
    settle_may g.D.Desk.called g.D.Desk.seen c.args.desk.now c.settle.new.desk c.args.session.now c.settle.new.self c.settle.result c.settle.ensures.call c.requires.may c.settle.ensures.on
