use Rattle.trio_laws.proofs.KnownSteps.{steps_are_known}
use Rattle.trio_laws.proofs.known.steps_are_known.Goals as goal

pub returns : goal.returns
returns c = record { law = steps_are_known }
