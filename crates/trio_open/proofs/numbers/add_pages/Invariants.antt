use Rattle.trio_open.proofs.Words.{◌≡◌, ◌≤◌, length, take, vec_capacity}
use Rattle.trio_allot.specs.Out.{page_numbers}
use Rattle.trio_open.proofs.numbers.add_pages.Given as goal

abbrev pub invariant-loop-page : goal.invariant-loop-page
invariant-loop-page l = record {
  numbers : l.numbers.items ≡ page_numbers (take l.page-index l.pages);
  many : length l.numbers.items ≡ l.page-index;
  room : length l.pages ≤ vec_capacity l.numbers;
}
