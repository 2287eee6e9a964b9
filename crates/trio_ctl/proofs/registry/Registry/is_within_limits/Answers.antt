use Rattle.trio_ctl.proofs.Words.{State, sizes_of, subst, superblock_at_home, superblock_facts}
use Rattle.trio_desk.specs.Contents.{AreWithinLimits}
use Rattle.trio_ctl.proofs.Views.{state_is}
use Rattle.trio_ctl.proofs.registry.Registry.is_within_limits.Goals as goal

pub returns : goal.returns
returns c =
    let i = c.self.inside in
    let facts = superblock_facts (superblock_at_home i.store i.first_core) c.self.invariant.stored.fits in
    subst (λ (s : State). AreWithinLimits (sizes_of s)) (state_is c.self.view_is) (record { pages = facts.pages; inodes = facts.inodes })
