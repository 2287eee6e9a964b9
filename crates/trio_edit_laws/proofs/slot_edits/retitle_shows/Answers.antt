use Rattle.trio_edit_laws.proofs.session.FilesRenamed.{after_retitle, retitle_shows}
use Rattle.trio_edit_laws.proofs.slot_edits.retitle_shows.Goals as goal

pub returns : goal.returns
returns c = record { law = retitle_shows; after = after_retitle }
