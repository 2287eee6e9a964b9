use Rattle.trio_allot.proofs.Words.{◌+◌, ◌≡◌, ◌≤◌, free_pages, is_free_page, length, numbers_where}
use Rattle.trio_allot.proofs.allot.Allotments.free_pages.Given as goal

-- those counted, and those from here on, are all
abbrev pub invariant-loop-no : goal.invariant-loop-no
invariant-loop-no l = record {
  counted : l.free + length (numbers_where (is_free_page l.owners l.self.pages) l.no (length l.owners)) ≡ length (free_pages l.owners l.self.pages);
  few : l.free ≤ l.no;
}
