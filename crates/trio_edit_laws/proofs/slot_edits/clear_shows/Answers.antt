use Rattle.trio_edit_laws.proofs.session.FilesRemoved.{after_clear, clear_shows}
use Rattle.trio_edit_laws.proofs.slot_edits.clear_shows.Goals as goal

pub returns : goal.returns
returns c = record { law = clear_shows; after = after_clear }
