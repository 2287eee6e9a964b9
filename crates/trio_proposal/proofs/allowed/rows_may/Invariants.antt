use Rattle.trio_proposal.proofs.Words.{◌<◌, ◌≤◌, IsTrue, false, row_in, row_may, slice_index_or, ℕ}
use Rattle.trio_proposal.proofs.allowed.rows_may.Given as goal

abbrev pub invariant-loop-ino : goal.invariant-loop-ino
invariant-loop-ino l =
    (n : ℕ) → 1 ≤ n → n < l.ino → IsTrue (row_may l.creds (slice_index_or l.numbers n false) (row_in l.rows n) (row_in l.found n))
