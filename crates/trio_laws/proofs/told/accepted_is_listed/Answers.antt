use Rattle.trio_laws.proofs.history.AcceptedBlocks.{accepted_is_listed}
use Rattle.trio_laws.proofs.told.accepted_is_listed.Goals as goal

pub returns : goal.returns
returns c = record { law = accepted_is_listed }
