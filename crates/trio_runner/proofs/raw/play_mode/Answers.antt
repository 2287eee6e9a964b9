use Rattle.trio_runner.proofs.Words.{Err, Ok, refl}
use Rattle.trio_runner.proofs.Calling.{if_ok, mode_called}
use Rattle.trio_runner.proofs.raw.play_mode.Goals as goal

pub returns-in-Ok-clause-line : goal.returns-in-Ok-clause-line
returns-in-Ok-clause-line g c =
    mode_called g.D.Desk.called _ _ (g.D.Desk.seen c.args.desk.now).lib _ _ c.args.ino c.args.mode (Ok tt) _ c.in-Ok.ensures.call refl

pub returns-in-Err-clause-line : goal.returns-in-Err-clause-line
returns-in-Err-clause-line g c =
    if_ok c.mode_answer.result _ _
    (λ told is. mode_called g.D.Desk.called _ _ (g.D.Desk.seen c.args.desk.now).lib _ _ c.args.ino c.args.mode (Err c.in-Err.fault) told c.in-Err.ensures.call is)
    c.mode_answer.ensures
