use Rattle.trio_surveys.proofs.Statements.{soundness_is_local}
use Rattle.trio_surveys.proofs.surveys.soundness_is_local.Goals as goal

pub returns : goal.returns
returns c = record { law = soundness_is_local }
