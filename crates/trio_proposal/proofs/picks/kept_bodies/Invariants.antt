use Rattle.trio_proposal.proofs.Words.{◌<◌, ◌≡◌, None, kept_at, length, option_map, row_in, slice_index_or, ℕ}
use Rattle.trio_proposal.proofs.picks.kept_bodies.Given as goal

abbrev pub invariant-loop-ino : goal.invariant-loop-ino
invariant-loop-ino l = record {
  same : l.home.pages ≡ l.initial.home.pages;
  kept : (n : ℕ) → n < l.ino → slice_index_or l.kept.items n None ≡ option_map (kept_at l.initial.home.pages l.root l.written n) (row_in l.rows n);
  len : length l.kept.items ≡ l.ino;
}
