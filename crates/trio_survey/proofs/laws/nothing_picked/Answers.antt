use Rattle.trio_survey.proofs.PickProofs.{nothing_picked}
use Rattle.trio_survey.proofs.laws.nothing_picked.Goals as goal

pub returns : goal.returns
returns c = record { law = nothing_picked }
