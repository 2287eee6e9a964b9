use Rattle.trio_edit_laws.proofs.session.FilesMade.{after_fill, fill_shows}
use Rattle.trio_edit_laws.proofs.slot_edits.fill_shows.Goals as goal

pub returns : goal.returns
returns c = record { law = fill_shows; after = after_fill }
