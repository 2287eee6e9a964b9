use Rattle.trio_shared.proofs.Left.{others_leave as the_law}
use Rattle.trio_shared.proofs.laws.others_leave.Goals as goal

pub returns : goal.returns
returns c = record { law = the_law }
