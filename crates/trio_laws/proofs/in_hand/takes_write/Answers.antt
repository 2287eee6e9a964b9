use Rattle.trio_laws.proofs.session.TakenWrite.{takes_write}
use Rattle.trio_laws.proofs.in_hand.takes_write.Goals as goal

pub returns : goal.returns
returns c = record { law = takes_write }
