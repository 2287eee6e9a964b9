use Rattle.trio_lease.proofs.Words.{inl}
use Rattle.trio_lease.proofs.Untouched.{all_marked}
use Rattle.trio_lease.proofs.write.WriteLease.touch_blocks.Goals as goal

pub invariant_of-self : goal.invariant_of-self
invariant_of-self c = rw c.touch_all.ensures (λ p h. inl (all_marked c.self.inside.blocks p h))
