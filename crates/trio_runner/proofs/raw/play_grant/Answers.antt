use Rattle.trio_runner.proofs.Words.{Err, Ok}
use Rattle.trio_runner.proofs.Calling.{grant_called, if_ok}
use Rattle.trio_runner.proofs.raw.play_grant.Goals as goal

pub returns-in-Ok-clause-line : goal.returns-in-Ok-clause-line
returns-in-Ok-clause-line g c =
    grant_called g.D.Desk.called _ _ (g.D.Desk.seen c.args.desk.now).lib _ _ c.args.ino c.args.kind (Ok c.in-Ok.children) c.grant_answer.result c.in-Ok.ensures.call c.grant_answer.ensures

pub returns-in-Err-clause-line : goal.returns-in-Err-clause-line
returns-in-Err-clause-line g c =
    if_ok c.fault_answer.result _ _
    (λ told is. grant_called g.D.Desk.called _ _ (g.D.Desk.seen c.args.desk.now).lib _ _ c.args.ino c.args.kind (Err c.in-Err.fault) told c.in-Err.ensures.call is)
    c.fault_answer.ensures
