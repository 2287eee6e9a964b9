use Rattle.trio_surveys.proofs.InParts.{bodies_in_parts}
use Rattle.trio_surveys.proofs.surveys.bodies_in_parts.Goals as goal

pub returns : goal.returns
returns c = record { law = bodies_in_parts }
