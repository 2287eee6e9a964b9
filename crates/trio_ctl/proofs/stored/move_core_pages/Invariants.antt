use Rattle.trio_ctl.proofs.Words.{◌+◌, ◌-◌, ◌<◌, ◌≡◌, ◌≤◌, None, length, page_or, slice_index_or, ℕ}
use Rattle.trio_ctl.proofs.stored.move_core_pages.Given as goal

abbrev pub invariant-loop-at : goal.invariant-loop-at
invariant-loop-at l = record {
  home : (p : ℕ) → l.first + l.at ≤ p → slice_index_or l.home.pages p None ≡ slice_index_or l.fn.home.pages p None;
  floor : l.fn.home.looked ≤ l.home.looked;
  many : length l.pages.items ≡ length l.fn.pages.items;
  moved : (k : ℕ) → l.front ≤ k → k < l.front + l.at → slice_index_or l.pages.items k None ≡ page_or (slice_index_or l.fn.home.pages (l.first + (k - l.front)) None) (slice_index_or l.fn.pages.items k None);
  before : (k : ℕ) → k < l.front → slice_index_or l.pages.items k None ≡ slice_index_or l.fn.pages.items k None;
  later : (k : ℕ) → l.front + l.at ≤ k → slice_index_or l.pages.items k None ≡ slice_index_or l.fn.pages.items k None;
}
