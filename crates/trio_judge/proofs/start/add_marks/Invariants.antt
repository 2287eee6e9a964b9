use Rattle.trio_judge.proofs.Words.{◌++◌, ◌+◌, ◌≡◌, ◌≤◌, replicate, vec_capacity, vec_len}
use Rattle.trio_judge.proofs.start.add_marks.Given as goal

abbrev pub invariant-loop : goal.invariant-loop
invariant-loop l = record {
  items : l.marks.items ≡ l.fn.marks.items ++ replicate l.counter l.mark;
  len : vec_len l.marks ≡ vec_len l.fn.marks + l.counter;
  capacity : vec_capacity l.fn.marks ≤ vec_capacity l.marks;
}
