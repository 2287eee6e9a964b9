use Rattle.trio_runner.proofs.Words.{◌∙◌, Err, Ok, ap, refl, subst, sym}
use Rattle.trio_report.specs.declared.answer.LineAnswer.TheVariants.{Accepted, Refused, NotClosed}
use Rattle.trio_runner.proofs.Calling.{ReleaseTold, release_called}
use Rattle.trio_runner.proofs.raw.play_release.Goals as goal

pub returns-in-Ok-Accepted-clause-line : goal.returns-in-Ok-Accepted-clause-line
returns-in-Ok-Accepted-clause-line g c =
    release_called g.D.Desk.called _ _ (g.D.Desk.seen c.args.desk.now).lib _ _ c.args.inos.now c.args.pages.now c.args.inodes.now c.release.result _ c.release.ensures.absent.1 c.release.ensures.call
    (subst (λ x. ReleaseTold x Accepted) (sym (c.in-Ok-Accepted.is ∙ ap Ok c.in-Ok-Accepted.field-0-is)) refl)

pub returns-in-Ok-Refused-clause-line : goal.returns-in-Ok-Refused-clause-line
returns-in-Ok-Refused-clause-line g c =
    release_called g.D.Desk.called _ _ (g.D.Desk.seen c.args.desk.now).lib _ _ c.args.inos.now c.args.pages.now c.args.inodes.now c.release.result _ c.release.ensures.absent.1 c.release.ensures.call
    (subst (λ x. ReleaseTold x (Refused c.in-Ok-Refused.rule)) (sym (c.in-Ok-Refused.is ∙ ap Ok c.in-Ok-Refused.field-0-is)) refl)

pub returns-in-Err-NotClosed-clause-line : goal.returns-in-Err-NotClosed-clause-line
returns-in-Err-NotClosed-clause-line g c =
    release_called g.D.Desk.called _ _ (g.D.Desk.seen c.args.desk.now).lib _ _ c.args.inos.now c.args.pages.now c.args.inodes.now c.release.result _ c.release.ensures.absent.1 c.release.ensures.call
    (subst (λ x. ReleaseTold x (NotClosed c.in-Err-NotClosed.ino)) (sym (c.in-Err-NotClosed.is ∙ ap Err c.in-Err-NotClosed.field-0-is)) refl)
