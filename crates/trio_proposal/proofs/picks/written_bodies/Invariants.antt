use Rattle.trio_proposal.proofs.Words.{◌+◌, ◌≡◌, AreLentBodies, take, vec_len}
use Rattle.trio_proposal.proofs.picks.written_bodies.Given as goal

abbrev pub invariant-loop-lease : goal.invariant-loop-lease
invariant-loop-lease l = record {
  lent : AreLentBodies (take l.lease-index l.leases) l.bodies.items;
  len : vec_len l.bodies ≡ l.inodes + 1;
}
