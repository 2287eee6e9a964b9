use Rattle.trio_edges.proofs.Words.{◌<◌, ◌≡◌, is_clear, true, ℕ}
use Rattle.trio_edges.proofs.lost_child.Given as goal

abbrev pub invariant-loop-ino : goal.invariant-loop-ino
invariant-loop-ino l = (n : ℕ) → n < l.ino → is_clear l.listing.listing l.rows n ≡ true
