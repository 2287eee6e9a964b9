use Rattle.trio_lease.proofs.Words.{◌∙◌, ap, is_some}
use Rattle.trio_lease.proofs.Numbered.{copied_some, found_among}
use Rattle.trio_lease.proofs.things.has_one.Goals as goal

pub returns : goal.returns
returns g c =
    c.is_some.ensures
    ∙ copied_some c.thing_of.result
    ∙ ap is_some c.thing_of.ensures
    ∙ found_among g.T.Lent.number_of c.args.things.now c.args.number
