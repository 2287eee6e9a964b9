use Rattle.trio_case.proofs.Words.{◌++◌, ◌+◌, ◌≡◌, ◌≤◌, take, vec_capacity, vec_len}
use Rattle.trio_case.proofs.chain.add_part.Given as goal

abbrev pub invariant-loop-number : goal.invariant-loop-number
invariant-loop-number l = record {
  added : l.list.items ≡ l.fn.list.items ++ take l.number-index l.number-items;
  len : vec_len l.list ≡ vec_len l.fn.list + l.number-index;
  kept : vec_capacity l.fn.list ≤ vec_capacity l.list;
}
