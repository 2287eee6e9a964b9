use Rattle.trio_entries.proofs.Words.{◌≡◌, InoParts, length, map, take}
use Rattle.trio_entries.proofs.outline.are_numbers.Given as goal

-- the same so far
abbrev pub invariant-loop-i : goal.invariant-loop-i
invariant-loop-i l = record {
  long : length l.numbers ≡ length l.inodes;
  so_far : take l.i l.numbers ≡ map (λ (n : InoParts). n.no) (take l.i l.inodes);
}
