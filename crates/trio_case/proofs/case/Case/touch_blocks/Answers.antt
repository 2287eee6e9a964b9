use Rattle.trio_case.proofs.OtherBytes.{alike_touched, is_case, tells, touched}
use Rattle.trio_case.proofs.case.Case.touch_blocks.Goals as goal

pub invariant_of-self : goal.invariant_of-self
invariant_of-self c =
    let k = c.self.inside in
    let b = k.bundle in
    rw c.touch_blocks.ensures (
      tells k.numbers b (touched b) (alike_touched b) c.self.invariant.0,
      is_case b (touched b) k.range k.inodes (alike_touched b) c.self.invariant.1,
    )
