use Rattle.trio_laws.proofs.session.Steps.{step_leaves_leases, moves_leave_leases}
use Rattle.trio_laws.proofs.sessions.moves_leave_leases.Goals as goal

pub returns : goal.returns
returns c = record { step = step_leaves_leases; moves = moves_leave_leases }
