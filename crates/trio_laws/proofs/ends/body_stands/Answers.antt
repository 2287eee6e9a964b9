use Rattle.trio_laws.proofs.EndLaws.{body_stands}
use Rattle.trio_laws.proofs.ends.body_stands.Goals as goal

pub returns : goal.returns
returns c = record { law = body_stands }
