use Rattle.trio_commit.proofs.Words.{if◌then◌else◌, ◌&&◌, ◌≡◌, None, is_among, is_listed, length, not, row_in, take, ℕ}
use Rattle.trio_commit.proofs.rows.end_gone.Given as goal

abbrev pub invariant-loop-ino : goal.invariant-loop-ino
invariant-loop-ino l = record {
  rows : (n : ℕ) → row_in l.rows n ≡ (if is_among n (take l.ino-index l.ino-items) && not (is_listed l.listing.listing n) then None else row_in l.fn.rows n);
  size : length l.rows ≡ length l.fn.rows;
}
