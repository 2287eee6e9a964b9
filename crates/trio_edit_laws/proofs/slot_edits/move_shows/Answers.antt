use Rattle.trio_edit_laws.proofs.session.FilesMoved.{after_move, move_shows}
use Rattle.trio_edit_laws.proofs.slot_edits.move_shows.Goals as goal

pub returns : goal.returns
returns c = record { law = move_shows; after = after_move }
