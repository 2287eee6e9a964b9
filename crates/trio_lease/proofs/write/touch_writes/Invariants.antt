use Rattle.trio_lease.proofs.Words.{◌++◌, ◌≡◌, all_touched, drop, map, take}
use Rattle.trio_lease.proofs.write.touch_writes.Given as goal

-- the leases so far have touched blocks, and the others are as they were
abbrev pub invariant-loop-lease : goal.invariant-loop-lease
invariant-loop-lease l = l.leases ≡ map all_touched (take l.lease-index l.fn.leases) ++ drop l.lease-index l.fn.leases
