use Rattle.trio_image.proofs.Words.{◌∙◌}
use Rattle.trio_image.proofs.NodeParts.{name-nothing}
use Rattle.trio_image.proofs.nodes.name_in.Goals as goal

pub returns-in-None : goal.returns-in-None
returns-in-None c = rw c.in-None.is (c.hyphen-in-None.ensures ∙ name-nothing c.args.inodes)
