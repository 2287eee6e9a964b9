use Rattle.trio_survey.proofs.Words.{◌+◌, ◌<◌, ◌≡◌, ◌≤◌, HasPage, padded_to_pages, page_at, ℕ}
use Rattle.trio_tables.specs.Stored.{owner_bytes}
use Rattle.trio_survey.proofs.verdict.owner_fault.Given as goal

abbrev pub invariant-loop-k : goal.invariant-loop-k
invariant-loop-k l = record {
  same : l.home.pages ≡ l.initial.home.pages;
  stored : (k : ℕ) → k < l.k → HasPage l.initial.home.pages (l.first_owner + k) (page_at k (padded_to_pages (owner_bytes l.owners)));
  reads : l.reads ≤ l.fn.reads + l.k;
  looked : l.home.looked ≤ l.fn.home.looked + l.k;
}
