use Rattle.trio_laws.proofs.RowSteps.{every_step_keeps_rows}
use Rattle.trio_laws.proofs.laws.every_step_keeps_rows.Goals as goal

pub returns : goal.returns
returns c = record { law = every_step_keeps_rows }
