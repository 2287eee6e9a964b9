use Rattle.trio_ctl.proofs.Words.{◌≡◌, LentFile, file_in, head_of, length, map, take}
use Rattle.trio_ctl.proofs.same.are_heads.Given as goal

-- the same so far
abbrev pub invariant-loop-i : goal.invariant-loop-i
invariant-loop-i l = record {
  long : length l.heads ≡ length l.leases;
  so_far : take l.i l.heads ≡ map (λ (f : LentFile). head_of (file_in f.stands)) (take l.i l.leases);
}
