use Rattle.trio_laws.proofs.EndLaws.{accepted_settles}
use Rattle.trio_laws.proofs.ends.accepted_settles.Goals as goal

pub returns : goal.returns
returns c = record { law = accepted_settles }
