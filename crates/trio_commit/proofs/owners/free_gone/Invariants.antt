use Rattle.trio_commit.proofs.Words.{◌<◌, ◌≡◌, ◌≤◌, length, owner_staying, slice_index, ℕ}
use Rattle.trio_commit.proofs.owners.free_gone.Given as goal

abbrev pub invariant-loop-no : goal.invariant-loop-no
invariant-loop-no l = record {
  done : (page : ℕ) → page < l.no → slice_index l.owners page ≡ owner_staying l.listing.listing (slice_index l.fn.owners page);
  rest : (page : ℕ) → l.no ≤ page → slice_index l.owners page ≡ slice_index l.fn.owners page;
  size : length l.owners ≡ length l.fn.owners;
}
