use Rattle.trio_laws.proofs.session.TakenMore.{takes_reads}
use Rattle.trio_laws.proofs.in_hand.takes_reads.Goals as goal

pub returns : goal.returns
returns c = record { law = takes_reads }
