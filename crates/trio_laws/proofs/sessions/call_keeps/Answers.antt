use Rattle.trio_laws.proofs.session.Calls.{call_keeps}
use Rattle.trio_laws.proofs.sessions.call_keeps.Goals as goal

pub returns : goal.returns
returns c = record { law = call_keeps }
