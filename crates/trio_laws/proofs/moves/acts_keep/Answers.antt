use Rattle.trio_laws.proofs.acts.Underways.{acts_keep}
use Rattle.trio_laws.proofs.moves.acts_keep.Goals as goal

pub returns : goal.returns
returns c = record { law = acts_keep }
