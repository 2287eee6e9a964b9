use Rattle.trio_surveys.proofs.RowsLaw.{verified_has_rows}
use Rattle.trio_surveys.proofs.rows.verified_has_rows.Goals as goal

pub returns : goal.returns
returns c = record { law = verified_has_rows }
