use Rattle.trio_raw.proofs.Words.{◌≡◌, ◌≤◌, length, take, vec_capacity, vec_len}
use Rattle.std.proofs.Common.{map}
use Rattle.trio_raw.proofs.lent.numbers_of.Given as goal

-- the numbers so far, and room for the others
abbrev pub invariant-loop-thing : goal.invariant-loop-thing
invariant-loop-thing g l = record {
  so_far : l.numbers.items ≡ map g.T.Lent.number_of (take l.thing-index l.things);
  count : vec_len l.numbers ≡ l.thing-index;
  room : length l.things ≤ vec_capacity l.numbers;
}
