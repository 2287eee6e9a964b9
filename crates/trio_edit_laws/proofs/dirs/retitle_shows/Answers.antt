use Rattle.trio_edit_laws.proofs.directories.Retitled.{retitle_leaves, retitle_shows}
use Rattle.trio_edit_laws.proofs.dirs.retitle_shows.Goals as goal

pub returns : goal.returns
returns c = record { law = retitle_shows; leaves = retitle_leaves }
