use Rattle.trio_shared_tests.proofs.Sitting.{plays_here, plays_then}
use Rattle.trio_shared_tests.proofs.threads.rages.Goals as goal

pub loop-init : goal.loop-init
loop-init g c = plays_here _ _ _ c.requires

pub loop-preserved : goal.loop-preserved
loop-preserved g c = plays_then _ _ _ _ _ _ c.loop.invariant c.does.ensures

pub returns : goal.returns
returns g c = plays_then _ _ _ _ _ _ c.loop.invariant c.hands_all_in.ensures
