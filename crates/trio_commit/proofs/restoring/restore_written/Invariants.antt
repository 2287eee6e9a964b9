use Rattle.trio_commit.proofs.Words.{lease_numbers, take}
use Rattle.trio_commit.proofs.PutBack.{ArePutBack}
use Rattle.trio_commit.proofs.restoring.restore_written.Given as goal

abbrev pub invariant-loop-lease : goal.invariant-loop-lease
invariant-loop-lease l = ArePutBack l.fn.checkpoints.items l.checkpoints.items l.home l.fn.home (take l.lease-index (lease_numbers l.writes))
