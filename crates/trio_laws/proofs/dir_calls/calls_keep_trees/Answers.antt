use Rattle.trio_laws.proofs.session.DirCalls.{done_is_tree, shown_is_tree}
use Rattle.trio_laws.proofs.dir_calls.calls_keep_trees.Goals as goal

pub returns : goal.returns
returns c = record { law = done_is_tree; shown = shown_is_tree }
