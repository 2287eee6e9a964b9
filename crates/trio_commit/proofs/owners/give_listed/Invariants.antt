use Rattle.trio_commit.proofs.Words.{◌≡◌, ◌≤◌, drop, length, owner_listed, slice_index, ℕ}
use Rattle.trio_commit.proofs.owners.give_listed.Given as goal

abbrev pub invariant-loop-left : goal.invariant-loop-left
invariant-loop-left l = record {
  given : (page : ℕ) → slice_index l.owners page ≡ owner_listed (drop l.left l.listing.listing.files) page (slice_index l.fn.owners page);
  size : length l.owners ≡ length l.fn.owners;
  within : l.left ≤ length l.files;
}

abbrev pub decreases-loop-left : goal.decreases-loop-left
decreases-loop-left l = l.left
