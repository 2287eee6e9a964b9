use Rattle.trio_edit_laws.proofs.TakenHold.{keeps_hold}
use Rattle.trio_edit_laws.proofs.takings.keeps_hold.Goals as goal

pub returns : goal.returns
returns c = record { law = keeps_hold }
