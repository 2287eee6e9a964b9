use Rattle.trio_edit_laws.proofs.directories.Moves.{move_leaves, move_shows}
use Rattle.trio_edit_laws.proofs.dirs.move_shows.Goals as goal

pub returns : goal.returns
returns c = record { law = move_shows; leaves = move_leaves }
