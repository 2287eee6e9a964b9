use Rattle.trio_lease.proofs.Untouched.{touched_kept}
use Rattle.trio_lease.proofs.write.WriteLease.block_mut.Goals as goal

pub invariant_of-self-lent : goal.invariant_of-self-lent
invariant_of-self-lent c = λ _. (λ w. touched_kept c.self.inside.lent.value.blocks.items c.self.inside.blocks c.args.i w c.self.invariant, c.self.invariant)
