use Rattle.trio_edit_laws.proofs.session.JudgedEdits.{judged_after_edit, reads_after_edit, listed_after_judged_edit}
use Rattle.trio_edit_laws.proofs.judged_edits.reads_after_edit.Goals as goal

pub returns : goal.returns
returns c = record { judged = judged_after_edit; reads = reads_after_edit; listed = listed_after_judged_edit }
