use Rattle.trio_survey.proofs.Words.{◌+◌, ◌<◌, ◌≡◌, ◌≤◌, HasPage, padded_to_pages, page_at, ℕ}
use Rattle.trio_tables.specs.Stored.{shadow_bytes}
use Rattle.trio_survey.proofs.verdict.row_fault.Given as goal

abbrev pub invariant-loop-k : goal.invariant-loop-k
invariant-loop-k l = record {
  same : l.home.pages ≡ l.initial.home.pages;
  stored : (k : ℕ) → k < l.k → HasPage l.initial.home.pages (1 + k) (page_at k (padded_to_pages (shadow_bytes l.rows)));
  reads : l.reads ≤ l.fn.reads + l.k;
  looked : l.home.looked ≤ l.fn.home.looked + l.k;
}
