use Rattle.trio_image.proofs.Words.{arith, sym}
use Rattle.trio_image.proofs.NodeParts.{slot_bytes-past}
use Rattle.trio_image.proofs.nodes.slot_on.Goals as goal

pub returns-then-slot-ge16-clause-slot : goal.returns-then-slot-ge16-clause-slot
returns-then-slot-ge16-clause-slot c = sym (slot_bytes-past c.args.slot c.args.page.now (omega (arith, c.bytes-all.ensures.len)))
