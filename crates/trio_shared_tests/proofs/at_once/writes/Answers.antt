use Rattle.trio_shared_tests.proofs.Writing.{writes_here, writes_then}
use Rattle.trio_shared_tests.proofs.at_once.writes.Goals as goal

pub loop-time-init : goal.loop-time-init
loop-time-init c = writes_here _

pub loop-time-preserved : goal.loop-time-preserved
loop-time-preserved c = writes_then _ _ _ c.loop-time.invariant (record { stays = c.poke-are_written.ensures.stands })
