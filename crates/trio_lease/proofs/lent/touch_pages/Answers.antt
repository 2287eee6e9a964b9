use Rattle.trio_lease.proofs.Words.{arith, as_touched, map_over_more}
use Rattle.trio_lease.proofs.lent.touch_pages.Goals as goal

pub loop-lent-preserved : goal.loop-lent-preserved
loop-lent-preserved c =
    let turn = c.loop-lent in
    rw (← c.lent-item.is)
    (map_over_more as_touched c.args.pages.now turn.pages turn.lent-index c.lent-item.result
    (omega arith) turn.invariant c.lent-item.is)
