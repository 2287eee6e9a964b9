use Rattle.trio_edit_laws.proofs.session.JudgedEdits.{judged_edit_shows}
use Rattle.trio_edit_laws.proofs.judged_edits.judged_edit_shows.Goals as goal

pub returns : goal.returns
returns c = record { law = judged_edit_shows }
