use Rattle.trio_laws.proofs.Ordered.{order_stays}
use Rattle.trio_laws.proofs.outs.order_stays.Goals as goal

pub returns : goal.returns
returns c = record { law = order_stays }
