use Rattle.trio_surveys.proofs.Statements.{survey_is_local}
use Rattle.trio_surveys.proofs.surveys.survey_is_local.Goals as goal

pub returns : goal.returns
returns c = record { law = survey_is_local }
