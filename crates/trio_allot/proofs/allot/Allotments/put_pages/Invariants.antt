use Rattle.trio_allot.proofs.Words.{◌<◌, ◌≡◌, All, None, length, page_numbers, reverse, vec_len, with_all, with_pages}
use Rattle.trio_allot.proofs.allot.Allotments.put_pages.Given as goal

-- with the pages that are left put back too, the first of them last in the list, all is as after all of them
abbrev pub invariant-loop-page : goal.invariant-loop-page
invariant-loop-page l = record {
  ended : with_all None (page_numbers (reverse l.pages.items)) l.self.pages ≡ with_all None (page_numbers l.fn.pages.items) l.fn.self.pages;
  numbers : l.self.numbers ≡ l.fn.self.numbers;
  home : with_pages (reverse l.pages.items) l.home.pages ≡ with_pages l.fn.pages.items l.fn.home.pages;
  looked : l.home.looked ≡ l.fn.home.looked;
  within : All (λ n. n < length l.self.pages) (page_numbers (reverse l.pages.items));
  within_home : All (λ n. n < length l.home.pages) (page_numbers (reverse l.pages.items));
}

abbrev pub decreases-loop-page : goal.decreases-loop-page
decreases-loop-page l = vec_len l.pages
