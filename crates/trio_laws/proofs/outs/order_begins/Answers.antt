use Rattle.trio_laws.proofs.Ordered.{order_begins}
use Rattle.trio_laws.proofs.outs.order_begins.Goals as goal

pub returns : goal.returns
returns c = record { law = order_begins }
