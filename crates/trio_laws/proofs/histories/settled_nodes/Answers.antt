use Rattle.trio_laws.proofs.history.SettledNodes.{settled_nodes}
use Rattle.trio_laws.proofs.histories.settled_nodes.Goals as goal

pub returns : goal.returns
returns c = record { law = settled_nodes }
