use Rattle.trio_laws.proofs.OtherSteps.{given_through}
use Rattle.trio_laws.proofs.laws.given_through.Goals as goal

pub returns : goal.returns
returns c = record { law = given_through }
