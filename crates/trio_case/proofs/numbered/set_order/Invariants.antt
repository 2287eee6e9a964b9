use Rattle.trio_case.proofs.Words.{◌≡◌, ◌≤◌, counted_numbers, take, vec_capacity, vec_len}
use Rattle.trio_case.proofs.numbered.set_order.Given as goal

abbrev pub invariant-loop-place : goal.invariant-loop-place
invariant-loop-place l = record {
  numbers : l.order.items ≡ counted_numbers (take l.place-index l.places);
  len : vec_len l.order ≡ l.place-index;
  capacity : vec_capacity l.fn.order ≤ vec_capacity l.order;
}
