use Rattle.trio_commit.proofs.Words.{arith}
use Rattle.trio_commit.proofs.Placing.{next_home, next_placed}
use Rattle.trio_commit.proofs.bodies.put_written.Goals as goal

pub put_lease-requires : goal.put_lease-requires
put_lease-requires c =
    let turn = c.loop-lease in
    next_placed c.args.rows.now c.args.checkpoints.now.items turn.checkpoints.items c.args.home.now.pages turn.home.pages c.args.writes.now turn.lease-index c.lease-item.result
    (omega arith) c.lease-item.is turn.invariant.home c.requires

pub loop-lease-preserved : goal.loop-lease-preserved
loop-lease-preserved c =
    let turn = c.loop-lease in
    let looked = turn.invariant.looked in
    let reads = turn.invariant.reads in
    let more = c.put_lease.ensures.looked in
    let more' = c.put_lease.ensures.reads in
    record {
      home = next_home c.args.rows.now c.args.checkpoints.now.items turn.checkpoints.items c.args.home.now.pages turn.home.pages c.args.writes.now turn.lease-index c.lease-item.result
          (omega arith) c.lease-item.is turn.invariant.home c.put_lease.new.checkpoints.items c.put_lease.new.home.pages c.put_lease.ensures.home c.put_lease.ensures.checkpoints;
      floor = omega (arith, turn.invariant.floor, c.put_lease.ensures.floor);
      looked = omega (arith, looked, more);
      reads = omega (arith, reads, more');
    }
