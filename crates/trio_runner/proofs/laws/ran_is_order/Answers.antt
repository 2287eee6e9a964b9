use Rattle.trio_runner.proofs.RanOrder.{ran_is_order as the_law}
use Rattle.trio_runner.proofs.laws.ran_is_order.Goals as goal

pub returns : goal.returns
returns c = record { law = the_law }
