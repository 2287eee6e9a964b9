use Rattle.trio_judge_tests.proofs.Words.{◌<◌, ◌≡◌, IsWhole, None, slice_index_or, ℕ}
use Rattle.trio_judge_tests.proofs.whole.are_whole.Given as goal

abbrev pub invariant-loop-no : goal.invariant-loop-no
invariant-loop-no l = record {
  same : l.home.pages ≡ l.initial.home.pages;
  whole : (n : ℕ) → n < l.no → IsWhole (slice_index_or l.initial.home.pages n None);
}
