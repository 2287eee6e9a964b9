use Rattle.trio_runner.proofs.Words.{may_be_settled}
use Rattle.trio_edit_laws.proofs.Called.{settle_may}
use Rattle.trio_runner.proofs.honest.play_settle.Goals as goal

pub settle-requires-clause-ready : goal.settle-requires-clause-ready
settle-requires-clause-ready g c = may_be_settled (g.D.Desk.seen c.args.desk.now) c.args.session.now c.requires.may

pub returns-clause-may : goal.returns-clause-may
returns-clause-may g c =
    settle_may g.D.Desk.called g.D.Desk.seen c.args.desk.now c.settle.new.desk c.args.session.now c.settle.new.self c.settle.result c.settle.ensures.call c.requires.may c.settle.ensures.on
