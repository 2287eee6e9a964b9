use Rattle.trio_surveys.proofs.RowsLaw.{rows_are_survey}
use Rattle.trio_surveys.proofs.rows.rows_are_survey.Goals as goal

pub returns : goal.returns
returns c = record { law = rows_are_survey }
