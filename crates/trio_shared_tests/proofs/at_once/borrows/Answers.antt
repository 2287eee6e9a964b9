use Rattle.trio_shared_tests.proofs.Sitting.{plays_here, plays_then}
use Rattle.trio_shared_tests.proofs.at_once.borrows.Goals as goal

pub loop-init : goal.loop-init
loop-init g c = plays_here _ _ _ c.requires

pub loop-preserved : goal.loop-preserved
loop-preserved g c = plays_then _ _ _ _ _ _ c.loop.invariant c.is_lent-are_lent.ensures
