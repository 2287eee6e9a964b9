use Rattle.trio_laws.proofs.session.Calls.{nothing_is_ready}
use Rattle.trio_laws.proofs.sessions.nothing_is_ready.Goals as goal

pub returns : goal.returns
returns c = record { law = nothing_is_ready }
