use Rattle.trio_checkpoint.proofs.Restoring.{restoring_keeps}
use Rattle.trio_checkpoint.proofs.laws.restoring_keeps.Goals as goal

pub returns : goal.returns
returns c = record { law = restoring_keeps }
