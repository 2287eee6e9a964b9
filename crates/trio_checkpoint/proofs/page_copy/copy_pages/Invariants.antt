use Rattle.trio_checkpoint.proofs.Words.{◌≡◌, ◌≤◌, AreCopies, take}
use Rattle.trio_checkpoint.proofs.page_copy.copy_pages.Given as goal

abbrev pub invariant-loop-number : goal.invariant-loop-number
invariant-loop-number l = record {
  copied : AreCopies l.fn.home.pages (take l.number-index l.numbers) l.copies.items;
  home : l.home.pages ≡ l.fn.home.pages;
  floor : l.fn.home.looked ≤ l.home.looked;
}
