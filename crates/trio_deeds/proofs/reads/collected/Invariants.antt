use Rattle.std.proofs.Common.{◌≡◌, ◌-◌, ◌≤◌, take, drop}
use Rattle.trio_session.specs.Deeds.{bytes_had}
use Rattle.trio_deeds.proofs.reads.collected.Given as goal

abbrev pub invariant-loop-from : goal.invariant-loop-from
invariant-loop-from l = (l.start ≤ l.from) × (l.from ≤ l.end) × (l.out.items ≡ take (l.from - l.start) (drop l.start (bytes_had l.session l.ino)))

abbrev pub decreases-loop-from : goal.decreases-loop-from
decreases-loop-from l = l.end - l.from
