use Rattle.trio_laws.proofs.history.StandsTree.{states_are_trees}
use Rattle.trio_laws.proofs.histories.states_are_trees.Goals as goal

pub returns : goal.returns
returns c = record { law = states_are_trees }
