use Rattle.trio_session.proofs.Words.{◌++◌, ◌+◌, ◌-◌, ◌≡◌, ◌≤◌, count_up, length}
use Rattle.std.proofs.Common.{vec_capacity}
use Rattle.trio_session.proofs.laid.push_up.Given as goal

-- with those that are left the numbers are all
abbrev pub invariant-loop-number : goal.invariant-loop-number
invariant-loop-number l = record {
  all : l.numbers.items ++ count_up l.number (l.from + l.count - l.number) ≡ l.fn.numbers.items ++ count_up l.from l.count;
  room : length l.numbers.items + (l.from + l.count - l.number) ≤ vec_capacity l.numbers;
}
