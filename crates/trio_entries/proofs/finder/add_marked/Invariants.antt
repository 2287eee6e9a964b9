use Rattle.trio_entries.proofs.Words.{◌+◌, ◌||◌, ◌≡◌, ◌≤◌, has_mark, is_among, take, vec_capacity, vec_len, ℕ}
use Rattle.trio_entries.proofs.finder.add_marked.Given as goal

abbrev pub invariant-loop-page : goal.invariant-loop-page
invariant-loop-page l =
    ((n : ℕ) → is_among n l.marked.items ≡ (is_among n l.fn.marked.items || has_mark n (take l.page-index l.pages)))
    × ((vec_len l.marked ≤ vec_len l.fn.marked + l.page-index) × (vec_capacity l.marked ≡ vec_capacity l.fn.marked))
