use Rattle.trio_judge.proofs.Words.{◌≡◌, AreMarked, AreOwn, List, bundle_in, bundle_pages, take, vec_len, ℕ}
use Rattle.trio_judge.proofs.pages.mark_own.Given as goal

abbrev pub invariant-loop-page : goal.invariant-loop-page
invariant-loop-page l = record {
  own : (before : List ℕ) → AreMarked (bundle_pages (bundle_in l.case.bundle)) l.fn.marks.items before → AreOwn (bundle_pages (bundle_in l.case.bundle)) before (take l.page-index l.pages) l.marks.items;
  len : vec_len l.marks ≡ vec_len l.fn.marks;
}
