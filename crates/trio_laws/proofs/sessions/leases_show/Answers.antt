use Rattle.trio_laws.proofs.session.Leases.{leases_show, holds_show}
use Rattle.trio_laws.proofs.sessions.leases_show.Goals as goal

pub returns : goal.returns
returns c = record { law = leases_show; holds = holds_show }
