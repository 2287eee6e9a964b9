use Rattle.std.proofs.Common.{ℕ, refl, arith, length-take, length-drop}
use Rattle.trio_io.proofs.Moving.{Written-took, Written-kept}
use Rattle.trio_io.proofs.streams.write_all.Goals.{in-Ok, in-Err+else-ne}
use Rattle.trio_io.proofs.streams.write_all.Goals as goal

pub loop-preserved : goal.loop-preserved
loop-preserved g c = elim c.match-write.branch [
  | in-Ok w ↦ rw (w.written-is, w.errors-is)
      (Written-took _ _ _ _ _ _ w.in-Ok.count _ _ c.loop.invariant refl (omega (arith, length-take {A = ℕ}, length-drop {A = ℕ}, w.in-Ok.ensures.bound)) w.in-Ok.ensures.bytes)
  | in-Err+else-ne w ↦ rw (w.written-is, w.errors-is)
      (Written-kept _ _ _ _ _ _ _ _ c.loop.invariant w.in-Err.ensures.bytes w.failed-failure.ensures.later)
]
