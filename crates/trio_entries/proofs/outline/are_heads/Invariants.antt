use Rattle.trio_entries.proofs.Words.{◌≡◌, LentFile, head_in, length, map, take}
use Rattle.trio_entries.proofs.outline.are_heads.Given as goal

-- the same so far
abbrev pub invariant-loop-i : goal.invariant-loop-i
invariant-loop-i l = record {
  long : length l.heads ≡ length l.leases;
  so_far : take l.i l.heads ≡ map (λ (f : LentFile). head_in f.stands) (take l.i l.leases);
}
