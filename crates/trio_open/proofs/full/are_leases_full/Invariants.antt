use Rattle.trio_open.proofs.Words.{AreWhole, In, LentFile, take}
use Rattle.trio_open.proofs.full.are_leases_full.Given as goal

-- those so far
abbrev pub invariant-loop-lease : goal.invariant-loop-lease
invariant-loop-lease l = (f : LentFile) → In f (take l.lease-index l.leases) → AreWhole f.stands.index × AreWhole f.stands.blocks
