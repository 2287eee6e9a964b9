use Rattle.std.proofs.Common.{rules}
use Rattle.trio_io.proofs.Moving.{Filled-took, Filled-kept}
use Rattle.trio_io.proofs.streams.fill.Goals.{in-Ok, in-Err+else-ne}
use Rattle.trio_io.proofs.streams.fill.Goals as goal

pub loop-preserved : goal.loop-preserved
loop-preserved g c = elim c.match-read.branch [
  | in-Ok w ↦ rw (w.filled-is, w.errors-is)
      (Filled-took _ _ _ _ _ _ w.in-Ok.count _ _ c.loop.invariant w.in-Ok.ensures.bound.0 (search rules) w.in-Ok.ensures.bytes.0)
  | in-Err+else-ne w ↦ rw (w.filled-is, w.errors-is)
      (Filled-kept _ _ _ _ _ _ _ _ _ c.loop.invariant (search rules) w.in-Err.ensures.bytes w.failed-failure.ensures.later)
]
