use Rattle.trio_laws.proofs.session.TakenMore.{becomes_through}
use Rattle.trio_laws.proofs.in_hand.becomes_through.Goals as goal

pub returns : goal.returns
returns c = record { law = becomes_through }
