use Rattle.trio_laws.proofs.session.Others.{agrees_is_stable, agrees_through}
use Rattle.trio_laws.proofs.sessions.others_leave_leases.Goals as goal

pub returns : goal.returns
returns c = record { law = agrees_is_stable; through = agrees_through }
