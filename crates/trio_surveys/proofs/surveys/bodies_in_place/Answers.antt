use Rattle.trio_surveys.proofs.Statements.{bodies_in_place}
use Rattle.trio_surveys.proofs.surveys.bodies_in_place.Goals as goal

pub returns : goal.returns
returns c = record { law = bodies_in_place }
