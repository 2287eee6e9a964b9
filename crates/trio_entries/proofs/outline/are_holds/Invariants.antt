use Rattle.trio_entries.proofs.Words.{◌≡◌, HoldParts, length, map, take}
use Rattle.trio_entries.proofs.outline.are_holds.Given as goal

-- the same so far
abbrev pub invariant-loop-i : goal.invariant-loop-i
invariant-loop-i l = record {
  long : length l.numbers ≡ length l.holds;
  so_far : take l.i l.numbers ≡ map (λ (h : HoldParts). h.ino) (take l.i l.holds);
}
