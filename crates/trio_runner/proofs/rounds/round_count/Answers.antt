use Rattle.trio_runner.proofs.Orders.{longest_step}
use Rattle.trio_runner.proofs.rounds.round_count.Goals as goal

pub loop-lib-preserved : goal.loop-lib-preserved
loop-lib-preserved c =
    longest_step c.args.libs.now c.loop-lib.lib-index c.loop-lib.count c.max-count.result c.lib-item.result c.line_count.result c.loop-lib-test.true c.lib-item.is c.line_count.ensures.count c.max-count.ensures c.loop-lib.invariant
