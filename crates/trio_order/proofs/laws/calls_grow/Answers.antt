use Rattle.trio_order.proofs.Growing.{calls_grow}
use Rattle.trio_order.proofs.laws.calls_grow.Goals as goal

pub returns : goal.returns
returns c = record { law = calls_grow }
