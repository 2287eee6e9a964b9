use Rattle.trio_edit_laws.proofs.session.ListedPages.{taking_keeps}
use Rattle.trio_edit_laws.proofs.in_hand.taking_keeps.Goals as goal

pub returns : goal.returns
returns c = record { law = taking_keeps }
