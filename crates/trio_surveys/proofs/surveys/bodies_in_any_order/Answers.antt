use Rattle.trio_surveys.proofs.AnyOrder.{bodies_in_any_order}
use Rattle.trio_surveys.proofs.surveys.bodies_in_any_order.Goals as goal

pub returns : goal.returns
returns c = record { law = bodies_in_any_order }
