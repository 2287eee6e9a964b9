use Rattle.trio_laws.proofs.session.TakenMore.{takes_allotment}
use Rattle.trio_laws.proofs.in_hand.takes_allotment.Goals as goal

pub returns : goal.returns
returns c = record { law = takes_allotment }
