use Rattle.trio_edit_laws.proofs.TakenReads.{keeps_reads}
use Rattle.trio_edit_laws.proofs.takings.keeps_reads.Goals as goal

pub returns : goal.returns
returns c = record { law = keeps_reads }
