use Rattle.trio_ctl.proofs.Words.{image_in}
use Rattle.trio_ctl.proofs.Seen.{same_history, seen_kept}
use Rattle.trio_ctl.proofs.ctl.Ctl.image.Goals as goal

pub invariant_of-self : goal.invariant_of-self
invariant_of-self c =
    let i = c.self.inside in
    (same_history (image_in i.first.value.superblock i.first.value.pages) i.registry.state c.image.new.self.state i.registry.begun c.image.new.self.begun i.registry.promised c.image.new.self.promised i.log i.notes c.self.invariant.0 c.image.ensures.state c.image.ensures.begun c.image.ensures.promised, c.self.invariant.1)

pub returns-clause-kept : goal.returns-clause-kept
returns-clause-kept c = seen_kept c.self.view_is c.self.invariant.0.all.kept
