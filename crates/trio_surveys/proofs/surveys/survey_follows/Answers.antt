use Rattle.trio_surveys.proofs.Statements.{survey_follows}
use Rattle.trio_surveys.proofs.surveys.survey_follows.Goals as goal

pub returns : goal.returns
returns c = record { law = survey_follows }
