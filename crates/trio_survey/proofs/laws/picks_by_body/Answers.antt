use Rattle.trio_survey.proofs.PickProofs.{picks_by_body}
use Rattle.trio_survey.proofs.laws.picks_by_body.Goals as goal

pub returns : goal.returns
returns c = record { law = picks_by_body }
