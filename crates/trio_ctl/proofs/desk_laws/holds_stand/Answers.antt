use Rattle.trio_ctl.proofs.DeskSteps.{holds_stand as the_law}
use Rattle.trio_ctl.proofs.desk_laws.holds_stand.Goals as goal

pub returns : goal.returns
returns c = record { law = the_law }
