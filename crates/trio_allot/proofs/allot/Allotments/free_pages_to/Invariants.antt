use Rattle.trio_allot.proofs.Words.{◌+◌, ◌≡◌, free_pages, is_free_page, length, numbers_where}
use Rattle.trio_allot.proofs.allot.Allotments.free_pages_to.Given as goal

-- those passed, and those from here on, are all
abbrev pub invariant-loop-i : goal.invariant-loop-i
invariant-loop-i l = l.i + length (numbers_where (is_free_page l.owners l.self.pages) l.from (length l.owners)) ≡ length (free_pages l.owners l.self.pages)
