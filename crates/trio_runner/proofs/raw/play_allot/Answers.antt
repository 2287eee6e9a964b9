use Rattle.trio_runner.proofs.Words.{refl, subst, sym}
use Rattle.trio_report.specs.declared.answer.LineAnswer.TheVariants.{Allotted}
use Rattle.trio_runner.proofs.Calling.{AllotTold, allot_called, if_ok}
use Rattle.trio_runner.proofs.raw.play_allot.Goals as goal

pub returns-in-Given-clause-line : goal.returns-in-Given-clause-line
returns-in-Given-clause-line g c =
    allot_called g.D.Desk.called _ _ (g.D.Desk.seen c.args.desk.now).lib _ _ _ c.args.pages c.args.inodes c.in_ok-pages.field-0 _ c.in_ok-pages.ensures.call
    (subst (λ x. AllotTold x (Allotted c.in-Given.pages c.in-Given.inodes)) (sym c.in-Given.is) refl)

pub returns-in-Refused-clause-line : goal.returns-in-Refused-clause-line
returns-in-Refused-clause-line g c =
    if_ok c.want_answer.result _ _
    (λ told is. allot_called g.D.Desk.called _ _ (g.D.Desk.seen c.args.desk.now).lib _ _ _ c.args.pages c.args.inodes c.in_ok-pages.field-0 told c.in_ok-pages.ensures.call
    (subst (λ x. AllotTold x told) (sym c.in-Refused.is) is))
    c.want_answer.ensures
