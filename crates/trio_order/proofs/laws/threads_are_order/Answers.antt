use Rattle.trio_order.proofs.Orders.{threads_are_order}
use Rattle.trio_order.proofs.laws.threads_are_order.Goals as goal

pub returns : goal.returns
returns c = record { law = threads_are_order }
