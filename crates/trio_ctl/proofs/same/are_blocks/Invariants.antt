use Rattle.trio_ctl.proofs.Words.{◌≡◌, block_in, length, map, take}
use Rattle.trio_ctl.proofs.same.are_blocks.Given as goal

-- the same so far
abbrev pub invariant-loop-i : goal.invariant-loop-i
invariant-loop-i l = record {
  long : length l.pages ≡ length l.lease.stands.blocks;
  so_far : take l.i l.pages ≡ map block_in (take l.i l.lease.stands.blocks);
}
