use Rattle.trio_laws.proofs.session.Listed.{now_is_listed}
use Rattle.trio_laws.proofs.sessions.now_is_listed.Goals as goal

pub returns : goal.returns
returns c = record { law = now_is_listed }
