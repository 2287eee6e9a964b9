use Rattle.trio_runner.proofs.OneSequence.{order_is_one as the_law}
use Rattle.trio_runner.proofs.laws.order_is_one.Goals as goal

pub returns : goal.returns
returns c = record { law = the_law c.desk_is_left.ensures.law c.others_leave.ensures.law }
