use Rattle.trio_laws.proofs.history.Isolates.{steps_are_isolated}
use Rattle.trio_laws.proofs.histories.steps_are_isolated.Goals as goal

pub returns : goal.returns
returns c = record { law = steps_are_isolated }
