use Rattle.trio_runner.proofs.Calling.{back_called}
use Rattle.trio_runner.proofs.raw.play_back.Goals as goal

pub returns-in-Ok-clause-line : goal.returns-in-Ok-clause-line
returns-in-Ok-clause-line g c = back_called g.D.Desk.called _ _ (g.D.Desk.seen c.args.desk.now).lib _ _ _ c.args.ino tt c.in-Ok.ensures.call
