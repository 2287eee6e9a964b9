use Rattle.trio_laws.proofs.session.Settling.{ready_is_legal}
use Rattle.trio_laws.proofs.sessions.ready_is_legal.Goals as goal

pub returns : goal.returns
returns c = record { law = ready_is_legal }
