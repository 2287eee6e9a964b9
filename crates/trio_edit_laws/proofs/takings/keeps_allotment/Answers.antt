use Rattle.trio_edit_laws.proofs.TakenAllotment.{keeps_allotment}
use Rattle.trio_edit_laws.proofs.takings.keeps_allotment.Goals as goal

pub returns : goal.returns
returns c = record { law = keeps_allotment }
