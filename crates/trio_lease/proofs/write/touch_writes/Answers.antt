use Rattle.trio_lease.proofs.Words.{all_touched, arith, map_over_more}
use Rattle.trio_lease.proofs.write.touch_writes.Goals as goal

pub loop-lease-preserved : goal.loop-lease-preserved
loop-lease-preserved c =
    let turn = c.loop-lease in
    rw (c.touch_blocks.ensures, ← c.lease-item.is)
    (map_over_more all_touched c.args.leases.now turn.leases turn.lease-index c.lease-item.result
    (omega arith) turn.invariant c.lease-item.is)
