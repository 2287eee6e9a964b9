use Rattle.trio_onetree.proofs.Setting.{set_node, with_guard}
use Rattle.trio_onetree.proofs.change.set_guard.Goals as goal

pub returns-in-Some : goal.returns-in-Some
returns-in-Some c = λ x is. set_node c.args.nodes.now c.args.ino x c.in-Some.node.now (with_guard c.args.on) c.in-Some.ensures.value is
