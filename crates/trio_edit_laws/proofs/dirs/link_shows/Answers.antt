use Rattle.trio_edit_laws.proofs.directories.Linked.{link_leaves, link_shows}
use Rattle.trio_edit_laws.proofs.dirs.link_shows.Goals as goal

pub returns : goal.returns
returns c = record { law = link_shows; leaves = link_leaves }
