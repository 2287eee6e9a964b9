use Rattle.trio_edit_laws.proofs.session.FilesTurned.{after_rekind, rekind_shows}
use Rattle.trio_edit_laws.proofs.slot_edits.rekind_shows.Goals as goal

pub returns : goal.returns
returns c = record { law = rekind_shows; after = after_rekind }
