use Rattle.trio_laws.proofs.session.TakenMore.{nothing_is_in_order}
use Rattle.trio_laws.proofs.in_hand.begins_in_order.Goals as goal

pub returns : goal.returns
returns c = record { law = nothing_is_in_order }
