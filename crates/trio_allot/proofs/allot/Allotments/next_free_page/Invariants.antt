use Rattle.trio_allot.proofs.Words.{◌≡◌, ◌≤◌, is_free_page, length, numbers_where}
use Rattle.trio_allot.proofs.allot.Allotments.next_free_page.Given as goal

-- none is free from the start up to here
abbrev pub invariant-loop-no : goal.invariant-loop-no
invariant-loop-no l = record {
  same : numbers_where (is_free_page l.owners l.self.pages) l.no (length l.owners) ≡ numbers_where (is_free_page l.owners l.self.pages) l.from (length l.owners);
  after : l.from ≤ l.no;
}
