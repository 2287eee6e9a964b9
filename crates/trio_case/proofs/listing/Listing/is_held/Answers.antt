use Rattle.trio_case.proofs.Words.{◌∙◌}
use Rattle.trio_case.proofs.listing.Listing.is_held.Goals as goal

pub returns : goal.returns
returns c = rw (← c.self.view_is) (c.has.ensures ∙ c.self.invariant.held.each c.args.ino)
