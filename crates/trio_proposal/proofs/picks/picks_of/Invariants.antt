use Rattle.trio_proposal.proofs.Words.{◌<◌, ◌≡◌, ◌≤◌, None, length, picked_by, row_in, slice_index_or, ℕ}
use Rattle.trio_proposal.proofs.picks.picks_of.Given as goal

abbrev pub invariant-loop-ino : goal.invariant-loop-ino
invariant-loop-ino l = record {
  done : (n : ℕ) → n < l.ino → slice_index_or l.picks n None ≡ picked_by (row_in l.rows n) (slice_index_or l.kept n None);
  rest : (n : ℕ) → l.ino ≤ n → slice_index_or l.picks n None ≡ None;
  len : length l.picks ≡ length l.rows;
}
