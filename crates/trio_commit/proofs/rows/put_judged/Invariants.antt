use Rattle.trio_commit.proofs.Words.{◌≡◌, ◌≤◌, drop, length, row_in, row_judged, ℕ}
use Rattle.trio_commit.proofs.rows.put_judged.Given as goal

abbrev pub invariant-loop-left : goal.invariant-loop-left
invariant-loop-left l = record {
  judged : (n : ℕ) → row_in l.rows n ≡ row_judged (drop l.left l.files) n (row_in l.fn.rows n);
  size : length l.rows ≡ length l.fn.rows;
  within : l.left ≤ length l.files;
}

abbrev pub decreases-loop-left : goal.decreases-loop-left
decreases-loop-left l = l.left
