use Rattle.trio_ctl.proofs.DeskSteps.{calls_leave_whole as the_law}
use Rattle.trio_ctl.proofs.desk_laws.calls_leave_whole.Goals as goal

pub returns : goal.returns
returns c = record { law = the_law }
