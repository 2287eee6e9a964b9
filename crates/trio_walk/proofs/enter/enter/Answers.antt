use Rattle.trio_walk.proofs.Words.{◌∙◌, ap, gives_met, is_directory-true, sym}
use Rattle.trio_walk.proofs.Entering.{denied_entered, file_entered}
use Rattle.trio_walk.proofs.enter.enter.Goals as goal

pub returns-then-not-is_directory : goal.returns-then-not-is_directory
returns-then-not-is_directory g c =
    file_entered g.D.Desk.called g.D.Desk.seen c.args.desk.now c.args.session.now c.args.at c.args.need c.requires.may c.requires.met (sym c.is_directory.ensures ∙ c.if-not-is_directory.true)

pub returns-then-not-gives : goal.returns-then-not-gives
returns-then-not-gives g c =
    denied_entered g.D.Desk.called g.D.Desk.seen c.args.desk.now c.args.session.now c.args.at c.args.need c.requires.may c.requires.met
    (is_directory-true c.args.at.kind (sym c.is_directory.ensures ∙ c.if-not-is_directory.false))
    (ap (λ k. gives_met k c.args.at c.args.need) (sym c.creds.ensures.creds) ∙ sym c.gives.ensures ∙ c.if-not-gives.true)

pub enter_allowed-requires-clause-directory : goal.enter_allowed-requires-clause-directory
enter_allowed-requires-clause-directory g c = is_directory-true c.args.at.kind (sym c.is_directory.ensures ∙ c.if-not-is_directory.false)
