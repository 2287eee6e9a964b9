use Rattle.trio_laws.proofs.KnownSteps.{known_decides}
use Rattle.trio_laws.proofs.known.known_decides.Goals as goal

pub returns : goal.returns
returns c = record { law = known_decides }
