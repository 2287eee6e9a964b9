use Rattle.trio_case.proofs.Words.{◌≡◌, ◌≤◌, map, take, vec_capacity, vec_len}
use Rattle.trio_case.proofs.kept.set_numbers.Given as goal

abbrev pub invariant-loop-page : goal.invariant-loop-page
invariant-loop-page l = record {
  numbers : l.numbers.items ≡ map (λ p. p.no) (take l.page-index l.pages);
  len : vec_len l.numbers ≡ l.page-index;
  capacity : vec_capacity l.fn.numbers ≤ vec_capacity l.numbers;
}
