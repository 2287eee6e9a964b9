use Rattle.trio_case.proofs.Words.{◌≡◌, ◌≤◌, AreCounted, counted_numbers, take, vec_capacity, vec_len}
use Rattle.trio_case.proofs.numbered.set_places.Given as goal

abbrev pub invariant-loop-at : goal.invariant-loop-at
invariant-loop-at l = record {
  numbers : counted_numbers l.places.items ≡ take l.at l.numbers;
  counted : AreCounted l.numbers l.places.items;
  len : vec_len l.places ≡ l.at;
  capacity : vec_capacity l.fn.places ≤ vec_capacity l.places;
}
