use Rattle.trio_laws.proofs.session.Lent.{leases_stay_true, lent_stays_true, step_keeps_lent}
use Rattle.trio_laws.proofs.sessions.leases_stay_true.Goals as goal

pub returns : goal.returns
returns c = record { step = step_keeps_lent; replays = lent_stays_true; all = leases_stay_true }
