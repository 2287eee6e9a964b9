use Rattle.trio_laws.proofs.history.RefusedTold.{refused_is_listed}
use Rattle.trio_laws.proofs.told.refused_is_listed.Goals as goal

pub returns : goal.returns
returns c = record { law = refused_is_listed }
