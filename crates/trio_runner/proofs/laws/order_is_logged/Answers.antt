use Rattle.trio_runner.proofs.RanOrder.{order_is_logged as the_law}
use Rattle.trio_runner.proofs.laws.order_is_logged.Goals as goal

pub returns : goal.returns
returns c = record { law = the_law }
