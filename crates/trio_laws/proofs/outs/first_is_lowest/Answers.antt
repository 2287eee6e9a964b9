use Rattle.trio_laws.proofs.Ordered.{first_is_lowest}
use Rattle.trio_laws.proofs.outs.first_is_lowest.Goals as goal

pub returns : goal.returns
returns c = record { law = first_is_lowest }
