use Rattle.std.proofs.Common.{arith, map}
use Rattle.trio_report.specs.inner.Nodes.{node_seen}
use Rattle.trio_report.proofs.Trees.{children_wait}
use Rattle.trio_report.proofs.tree.Unprinted.add_children.Goals as goal

pub returns : goal.returns
returns c =
    children_wait (node_seen c.args.self.now) (map node_seen c.args.pending.now.items) (map node_seen c.loop-listed.pending.items) c.args.entries.now c.sort_down.new.entries c.loop-listed.listed-index (omega arith) c.loop-listed.invariant c.in_ok-sort_down.ensures
