use Rattle.trio_shared_tests.proofs.Sitting.{plays_here, plays_then}
use Rattle.trio_shared_tests.proofs.rows.are_told.Goals as goal

pub loop-step-init : goal.loop-step-init
loop-step-init g c = (plays_here _ _ _ c.requires.one, plays_here _ _ _ c.requires.two)

pub loop-step-preserved : goal.loop-step-preserved
loop-step-preserved g c =
    (plays_then _ _ _ _ _ _ c.loop-step.invariant.0 c.step_is_told-are_told.ensures.one, plays_then _ _ _ _ _ _ c.loop-step.invariant.1 c.step_is_told-are_told.ensures.two)
