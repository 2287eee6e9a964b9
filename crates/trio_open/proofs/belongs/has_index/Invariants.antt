use Rattle.trio_open.proofs.Words.{◌≡◌, are_numbered, drop, length}
use Rattle.trio_open.proofs.belongs.has_index.Given as goal

-- what is left has its numbers exactly where all have
abbrev pub invariant-loop-i : goal.invariant-loop-i
invariant-loop-i l = record {
  same : length l.lease.stands.index ≡ length l.numbers;
  left : are_numbered (drop l.i l.lease.stands.index) (drop l.i l.numbers) ≡ are_numbered l.lease.stands.index l.numbers;
}
