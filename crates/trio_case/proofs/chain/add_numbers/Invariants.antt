use Rattle.trio_case.proofs.Words.{◌++◌, ◌+◌, ◌≡◌, ◌≤◌, take, vec_capacity, vec_len}
use Rattle.trio_case.proofs.chain.add_numbers.Given as goal

abbrev pub invariant-loop-i : goal.invariant-loop-i
invariant-loop-i l = record {
  added : l.numbers.items ≡ l.fn.numbers.items ++ take l.i l.index.numbers;
  len : vec_len l.numbers ≡ vec_len l.fn.numbers + l.i;
  kept : vec_capacity l.fn.numbers ≤ vec_capacity l.numbers;
}
