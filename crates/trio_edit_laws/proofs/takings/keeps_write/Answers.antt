use Rattle.trio_edit_laws.proofs.TakenWrite.{keeps_write}
use Rattle.trio_edit_laws.proofs.takings.keeps_write.Goals as goal

pub returns : goal.returns
returns c = record { law = keeps_write }
