use Rattle.trio_ctl.proofs.DeskSteps.{others_see as the_law}
use Rattle.trio_ctl.proofs.desk_laws.others_see.Goals as goal

pub returns : goal.returns
returns c = record { law = the_law }
