use Rattle.trio_ctl.proofs.Words.{◌≡◌, fresh_in, length, map, take}
use Rattle.trio_ctl.proofs.same.are_fresh.Given as goal

-- the same so far
abbrev pub invariant-loop-i : goal.invariant-loop-i
invariant-loop-i l = record {
  long : length l.pages ≡ length l.fresh;
  so_far : take l.i l.pages ≡ map fresh_in (take l.i l.fresh);
}
