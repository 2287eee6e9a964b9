use Rattle.trio_laws.proofs.session.Accepting.{ready_is_accepted}
use Rattle.trio_laws.proofs.session.Moments.{ready_is_accepted_through}
use Rattle.trio_laws.proofs.sessions.ready_is_accepted.Goals as goal

pub returns : goal.returns
returns c = record { law = ready_is_accepted; through = ready_is_accepted_through }
