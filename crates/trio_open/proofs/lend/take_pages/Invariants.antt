use Rattle.trio_open.proofs.Words.{◌≡◌, ◌≤◌, core_of, length, map, sheets_of, take, untouched, vec_capacity, without_pages}
use Rattle.trio_open.proofs.lend.take_pages.Given as goal

abbrev pub invariant-loop-number : goal.invariant-loop-number
invariant-loop-number l = record {
  home : l.home.pages ≡ without_pages (take l.number-index l.numbers) l.fn.home.pages;
  lent : l.to.items ≡ map untouched (sheets_of (core_of l.fn.home.pages l.fn.range) (take l.number-index l.numbers));
  floor : l.fn.home.looked ≤ l.home.looked;
  many : length l.to.items ≡ l.number-index;
  room : length l.numbers ≤ vec_capacity l.to;
}
