use Rattle.trio_image.proofs.Words.{◌∙◌, CoreRange, ap, sym}
use Rattle.trio_layout.specs.Body.{body_of}
use Rattle.trio_image.proofs.NodeParts.{body_of-nothing}
use Rattle.trio_image.proofs.nodes.body_read.Goals as goal

pub returns-in-Some : goal.returns-in-Some
returns-in-Some c = rw c.in-Some.is (c.read.ensures.value ∙ ap (λ (g : CoreRange). body_of c.args.kind g c.in-Some.bytes) c.core_range.ensures)

pub returns-in-None : goal.returns-in-None
returns-in-None c = rw c.in-None.is (sym (body_of-nothing c.args.kind _))
