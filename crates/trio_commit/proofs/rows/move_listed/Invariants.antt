use Rattle.trio_commit.proofs.Words.{◌≡◌, ◌≤◌, drop, entry_seen, length, map, row_in, row_moved, ℕ}
use Rattle.trio_commit.proofs.rows.move_listed.Given as goal

abbrev pub invariant-loop-left : goal.invariant-loop-left
invariant-loop-left l = record {
  moved : (n : ℕ) → row_in l.rows n ≡ row_moved (map entry_seen (drop l.left l.entries)) n (row_in l.fn.rows n);
  size : length l.rows ≡ length l.fn.rows;
  within : l.left ≤ length l.entries;
}

abbrev pub decreases-loop-left : goal.decreases-loop-left
decreases-loop-left l = l.left
