use Rattle.trio_laws.proofs.Ordered.{grants_are_ordered}
use Rattle.trio_laws.proofs.outs.grants_are_ordered.Goals as goal

pub returns : goal.returns
returns c = record { law = grants_are_ordered }
