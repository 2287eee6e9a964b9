use Rattle.trio_shared.proofs.Left.{leaves_one as the_law}
use Rattle.trio_shared.proofs.laws.leaves_one.Goals as goal

pub returns : goal.returns
returns c = record { law = the_law }
