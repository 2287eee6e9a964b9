use Rattle.trio_edit_laws.proofs.directories.Cleared.{clear_leaves, clear_shows}
use Rattle.trio_edit_laws.proofs.dirs.clear_shows.Goals as goal

pub returns : goal.returns
returns c = record { law = clear_shows; leaves = clear_leaves }
