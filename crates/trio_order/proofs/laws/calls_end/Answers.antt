use Rattle.trio_order.proofs.Growing.{calls_end}
use Rattle.trio_order.proofs.laws.calls_end.Goals as goal

pub returns : goal.returns
returns c = record { law = calls_end }
