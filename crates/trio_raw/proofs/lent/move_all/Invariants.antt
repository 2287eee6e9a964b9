use Rattle.trio_raw.proofs.Words.{◌++◌, ◌+◌, ◌≡◌, ◌≤◌, [], are_new, drop, length, named, true, vec_capacity, vec_len, without_all}
use Rattle.trio_raw.proofs.lent.move_all.Given as goal

-- with what is left to be moved, all is as after all
abbrev pub invariant-loop-number : goal.invariant-loop-number
invariant-loop-number g l = record {
  once : are_new [] (drop l.number-index l.numbers) ≡ true;
  moved : l.taken.items ++ named g.T.Lent.number_of l.things.items (drop l.number-index l.numbers) ≡ l.fn.taken.items ++ named g.T.Lent.number_of l.fn.things.items l.numbers;
  left : without_all g.T.Lent.number_of l.things.items (drop l.number-index l.numbers) ≡ without_all g.T.Lent.number_of l.fn.things.items l.numbers;
  count : vec_len l.things + vec_len l.taken ≡ vec_len l.fn.things + vec_len l.fn.taken;
  room : vec_len l.taken + length (drop l.number-index l.numbers) ≤ vec_capacity l.taken;
  capacity : vec_capacity l.things ≡ vec_capacity l.fn.things;
}
