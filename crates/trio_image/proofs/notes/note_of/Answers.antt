use Rattle.trio_image.proofs.Words.{◌∙◌, ap, as_row, body_at, core_in, name_said, slot_of}
use Rattle.trio_layout.specs.Body.{guard_in}
use Rattle.trio_image.proofs.NodeParts.{body-at_row}
use Rattle.trio_image.proofs.NoteParts.{note-parts}
use Rattle.trio_image.proofs.notes.note_of.Goals as goal

pub returns-clause-note : goal.returns-clause-note
returns-clause-note c =
    let core = core_in c.args.superblock.now c.args.home.now.pages in
    let r = as_row c.args.row.now in
    let slot = rw c.core_range.ensures at c.slot_at-slot.ensures.slot in
    let body = body-at_row core c.args.ino r _ _ slot c.body_at-body.ensures in
    note-parts core c.args.ino r _ _ _ (c.name_in.ensures ∙ ap (λ bytes. name_said (slot_of core.inodes bytes)) slot) (c.size_in.ensures ∙ ap (λ bytes. (body_at bytes).size) body) (c.guard_in.ensures ∙ ap guard_in body)
