use Rattle.trio_proposal.proofs.Words.{◌<◌, ◌≤◌, IsTrue, false, owner_may, slice_index_or, ℕ}
use Rattle.trio_proposal.proofs.allowed.owners_may.Given as goal

abbrev pub invariant-loop-page : goal.invariant-loop-page
invariant-loop-page l =
    (p : ℕ) → l.fn.range.first ≤ p → p < l.page → IsTrue (owner_may l.rows l.handed.written.items (slice_index_or l.handed.pages.items p false) (slice_index_or l.owners p 0))
