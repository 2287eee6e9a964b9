use Rattle.trio_commit.proofs.Words.{◌++◌, ◌≡◌, as_before, drop, map, take}
use Rattle.trio_commit.proofs.restoring.give_bodies_back.Given as goal

abbrev pub invariant-loop-lease : goal.invariant-loop-lease
invariant-loop-lease l = l.writes ≡ map (as_before l.checkpoints) (take l.lease-index l.fn.writes) ++ drop l.lease-index l.fn.writes
