use Rattle.trio_edit_laws.proofs.GrowingDir.{grow_dir_shows}
use Rattle.trio_edit_laws.proofs.edits.grow_dir_shows.Goals as goal

pub returns : goal.returns
returns c = record { law = grow_dir_shows }
