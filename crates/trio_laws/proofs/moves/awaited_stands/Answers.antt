use Rattle.trio_laws.proofs.acts.Awaited.{awaited_stands}
use Rattle.trio_laws.proofs.moves.awaited_stands.Goals as goal

pub returns : goal.returns
returns c = record { law = awaited_stands }
