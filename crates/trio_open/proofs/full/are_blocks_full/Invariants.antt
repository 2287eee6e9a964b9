use Rattle.trio_open.proofs.Words.{AreWhole, take}
use Rattle.trio_open.proofs.full.are_blocks_full.Given as goal

-- those so far
abbrev pub invariant-loop-i : goal.invariant-loop-i
invariant-loop-i l = AreWhole (take l.i l.lease.stands.blocks)
