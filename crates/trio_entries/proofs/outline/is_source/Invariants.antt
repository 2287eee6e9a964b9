use Rattle.trio_entries.proofs.Words.{◌≡◌, length, numbers_in, take}
use Rattle.trio_entries.proofs.outline.is_source.Given as goal

-- the same so far
abbrev pub invariant-loop-i : goal.invariant-loop-i
invariant-loop-i l = record {
  long : length l.numbers ≡ length (numbers_in l.source);
  so_far : take l.i l.numbers ≡ take l.i (numbers_in l.source);
}
