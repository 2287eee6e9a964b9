use Rattle.trio_laws.proofs.OtherSteps.{closed_through}
use Rattle.trio_laws.proofs.laws.closed_through.Goals as goal

pub returns : goal.returns
returns c = record { law = closed_through }
