use Rattle.trio_laws.proofs.EndLaws.{refused_settles}
use Rattle.trio_laws.proofs.ends.refused_settles.Goals as goal

pub returns : goal.returns
returns c = record { law = refused_settles }
