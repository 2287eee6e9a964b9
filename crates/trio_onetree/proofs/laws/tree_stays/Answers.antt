use Rattle.trio_onetree.proofs.TreeStays.{tree_stays, tree_stays_through}
use Rattle.trio_onetree.proofs.laws.tree_stays.Goals as goal

pub returns : goal.returns
returns c = record { call = tree_stays; calls = tree_stays_through }
