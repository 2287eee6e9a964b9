use Rattle.trio_survey.proofs.Words.{◌+◌, ◌-◌, ◌≡◌, ◌≤◌, None, kept_count, vec_len, ℕ}
use Rattle.std.proofs.Common.{max, slice_index_or}
use Rattle.trio_survey.proofs.kept.KeptPages.reach.Given as goal

abbrev pub invariant-loop-self : goal.invariant-loop-self
invariant-loop-self l = record {
  same : (i : ℕ) → slice_index_or l.self.pages.items i None ≡ slice_index_or l.fn.self.pages.items i None;
  count : kept_count l.self.pages.items ≡ kept_count l.fn.self.pages.items;
  len : vec_len l.self.pages ≤ max (vec_len l.fn.self.pages) (l.place + 1);
}

abbrev pub decreases-loop-self : goal.decreases-loop-self
decreases-loop-self l = l.place + 1 - vec_len l.self.pages
