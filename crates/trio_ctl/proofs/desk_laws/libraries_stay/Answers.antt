use Rattle.trio_ctl.proofs.DeskSteps.{libraries_stay as the_law}
use Rattle.trio_ctl.proofs.desk_laws.libraries_stay.Goals as goal

pub returns : goal.returns
returns c = record { law = the_law }
