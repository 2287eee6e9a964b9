use Rattle.trio_auxdir.proofs.Words.{◌-◌, ◌<◌, ◌≤◌, IsLess, length, nth_name, slot_at, ℕ}
use Rattle.trio_auxdir.proofs.order.position.Given as goal

abbrev pub invariant-loop-low : goal.invariant-loop-low
invariant-loop-low l = record {
  ordered : l.low ≤ l.high;
  within : l.high ≤ length l.order;
  below : (k : ℕ) → k < l.low → IsLess (nth_name (slot_at l.slots) l.order k) l.name;
  above : (k : ℕ) → l.high ≤ k → k < length l.order → IsLess l.name (nth_name (slot_at l.slots) l.order k);
}

abbrev pub decreases-loop-low : goal.decreases-loop-low
decreases-loop-low l = l.high - l.low
