use Rattle.trio_runner.proofs.RanFree.{ran_ends_free as the_law}
use Rattle.trio_runner.proofs.laws.ran_ends_free.Goals as goal

pub returns : goal.returns
returns c = record { law = the_law c.desk_is_left.ensures.law c.others_leave.ensures.law }
