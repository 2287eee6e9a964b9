use Rattle.trio_edit_laws.proofs.directories.Sees.{sees_directory}
use Rattle.trio_edit_laws.proofs.dirs.sees_directory.Goals as goal

pub returns : goal.returns
returns c = record { law = sees_directory }
