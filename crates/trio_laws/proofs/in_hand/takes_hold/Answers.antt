use Rattle.trio_laws.proofs.session.TakenHold.{takes_hold}
use Rattle.trio_laws.proofs.in_hand.takes_hold.Goals as goal

pub returns : goal.returns
returns c = record { law = takes_hold }
