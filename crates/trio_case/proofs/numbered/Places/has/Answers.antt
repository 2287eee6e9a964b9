use Rattle.trio_case.proofs.Words.{◌∙◌, ap, is_some}
use Rattle.trio_case.proofs.Counted.{place_some}
use Rattle.trio_case.proofs.numbered.Places.has.Goals as goal

pub returns : goal.returns
returns c = c.is_some.ensures ∙ ap is_some c.find.ensures ∙ place_some c.args.no c.args.self.now
