use Rattle.trio_laws.proofs.session.Lent.{step_keeps_root}
use Rattle.trio_laws.proofs.sessions.root_stays.Goals as goal

pub returns : goal.returns
returns c = record { law = step_keeps_root }
