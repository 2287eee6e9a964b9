use Rattle.trio_edit_laws.proofs.directories.Filled.{fill_leaves, fill_shows}
use Rattle.trio_edit_laws.proofs.dirs.fill_shows.Goals as goal

pub returns : goal.returns
returns c = record { law = fill_shows; leaves = fill_leaves }
