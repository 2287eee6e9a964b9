use Rattle.trio_moves.proofs.Weighed.{weighed_stands}
use Rattle.trio_moves.proofs.laws.weighed_stands.Goals as goal

pub returns : goal.returns
returns c = record { law = weighed_stands }
