use Rattle.trio_commit.proofs.Words.{◌+◌, ◌≤◌, take}
use Rattle.trio_commit.proofs.Placing.{AreHome}
use Rattle.trio_commit.proofs.bodies.put_written.Given as goal

abbrev pub invariant-loop-lease : goal.invariant-loop-lease
invariant-loop-lease l = record {
  home : AreHome l.rows l.fn.checkpoints.items l.checkpoints.items l.fn.home.pages l.home.pages (take l.lease-index l.writes);
  floor : l.fn.home.looked ≤ l.home.looked;
  looked : l.home.looked ≤ l.fn.home.looked + l.lease-index;
  reads : l.reads ≤ l.fn.reads + l.lease-index;
}
