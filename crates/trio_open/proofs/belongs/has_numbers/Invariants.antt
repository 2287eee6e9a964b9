use Rattle.trio_open.proofs.Words.{◌≡◌, length, map, take}
use Rattle.trio_open.proofs.belongs.has_numbers.Given as goal

-- the same so far
abbrev pub invariant-loop-i : goal.invariant-loop-i
invariant-loop-i g l = record {
  long : length l.numbers ≡ length l.things;
  so_far : take l.i l.numbers ≡ map g.T.Numbered.number_of (take l.i l.things);
}
