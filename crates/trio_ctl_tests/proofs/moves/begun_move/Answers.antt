use Rattle.trio_ctl_tests.proofs.Leases.{touched_through}
use Rattle.trio_ctl_tests.proofs.moves.begun_move.Goals as goal

pub returns-then-gather-clause-touched : goal.returns-then-gather-clause-touched
returns-then-gather-clause-touched c = touched_through c.begun.result c.gather.new.bundle c.begun.ensures.bundle c.gather.ensures.touched
