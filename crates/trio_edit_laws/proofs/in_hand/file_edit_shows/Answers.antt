use Rattle.trio_edit_laws.proofs.session.WrittenEdits.{file_edit_shows}
use Rattle.trio_edit_laws.proofs.in_hand.file_edit_shows.Goals as goal

pub returns : goal.returns
returns c = record { law = file_edit_shows }
