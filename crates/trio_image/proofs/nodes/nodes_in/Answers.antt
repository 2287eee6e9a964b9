use Rattle.trio_image.proofs.Words.{◌∙◌}
use Rattle.trio_image.proofs.NodeParts.{tabulated-more}
use Rattle.trio_image.proofs.nodes.nodes_in.Goals as goal

pub loop-ino-preserved : goal.loop-ino-preserved
loop-ino-preserved c = record {
  same = c.node_at.ensures.pages ∙ c.loop-ino.invariant.same;
  so_far = c.in_ok-set.ensures.set ∙ tabulated-more _ c.loop-ino.ino c.in_ok-node.node _ c.loop-ino.invariant.so_far (rw c.loop-ino.invariant.same at c.in_ok-node.ensures.node);
}
