use Rattle.trio_lease.proofs.Words.{In, KeepsUntouched, LentFile, take}
use Rattle.trio_lease.proofs.bundle.Bundle.keeps_untouched.Given as goal

-- it is told of the leases so far
abbrev pub invariant-loop-lease : goal.invariant-loop-lease
invariant-loop-lease l = (f : LentFile) → In f (take l.lease-index l.self.writes) → KeepsUntouched f
