use Rattle.trio_shared.proofs.Left.{desk_is_left as the_law}
use Rattle.trio_shared.proofs.laws.desk_is_left.Goals as goal

pub returns : goal.returns
returns c = record { law = the_law }
