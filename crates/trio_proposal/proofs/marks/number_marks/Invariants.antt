use Rattle.trio_proposal.proofs.Words.{◌+◌, ◌≡◌, MarksJust, map, take, vec_len}
use Rattle.trio_proposal.proofs.marks.number_marks.Given as goal

abbrev pub invariant-loop-number : goal.invariant-loop-number
invariant-loop-number l = record {
  marked : MarksJust l.marks.items (map (λ n. n.no) (take l.number-index l.numbers));
  len : vec_len l.marks ≡ l.inodes + 1;
}
