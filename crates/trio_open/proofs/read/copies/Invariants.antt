use Rattle.trio_open.proofs.Words.{◌≡◌, ◌≤◌, core_of, map, sheets_of, take, untouched}
use Rattle.trio_open.proofs.read.copies.Given as goal

abbrev pub invariant-loop-number : goal.invariant-loop-number
invariant-loop-number l = record {
  home : l.home.pages ≡ l.fn.home.pages;
  floor : l.fn.home.looked ≤ l.home.looked;
  lent : l.copies.items ≡ map untouched (sheets_of (core_of l.fn.home.pages l.fn.range) (take l.number-index l.numbers));
}
