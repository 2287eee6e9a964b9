use Rattle.trio_edit_laws.proofs.session.JudgedAllotments.{judged_after_allotment}
use Rattle.trio_edit_laws.proofs.session.JudgedTakings.{judged_after_hold, judged_after_write}
use Rattle.trio_edit_laws.proofs.in_hand.judges_taken.Goals as goal

pub returns : goal.returns
returns c = record { write = judged_after_write; hold = judged_after_hold; allotment = judged_after_allotment }
