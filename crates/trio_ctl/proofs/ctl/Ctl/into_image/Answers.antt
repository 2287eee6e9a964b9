use Rattle.trio_ctl.proofs.Words.{image_in}
use Rattle.trio_ctl.proofs.Seen.{same_history, seen_kept}
use Rattle.trio_ctl.proofs.ctl.Ctl.into_image.Goals as goal

pub returns-in-Ok-clause-kept : goal.returns-in-Ok-clause-kept
returns-in-Ok-clause-kept c = seen_kept c.self.view_is c.self.invariant.0.all.kept

pub returns-in-Err-clause-kept : goal.returns-in-Err-clause-kept
returns-in-Err-clause-kept c = seen_kept c.self.view_is c.self.invariant.0.all.kept

pub invariant_of-ctl : goal.invariant_of-ctl
invariant_of-ctl c =
    let i = c.self.inside in
    let came = c.in-Err.ensures in
    (same_history (image_in i.first.value.superblock i.first.value.pages) i.registry.state c.in-Err.registry.state i.registry.begun c.in-Err.registry.begun i.registry.promised c.in-Err.registry.promised i.log i.notes c.self.invariant.0 came.back came.begun came.promised, c.self.invariant.1)
