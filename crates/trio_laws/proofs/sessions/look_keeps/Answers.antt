use Rattle.trio_laws.proofs.session.Calls.{look_keeps}
use Rattle.trio_laws.proofs.sessions.look_keeps.Goals as goal

pub returns : goal.returns
returns c = record { law = look_keeps }
