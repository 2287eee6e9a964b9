use Rattle.trio_image.proofs.Words.{◌∙◌, ap, as_row, content_of, core_in, name_said, slot_of}
use Rattle.trio_layout.specs.Body.{guard_in}
use Rattle.trio_image.proofs.NodeParts.{body-at_row, node-parts}
use Rattle.trio_image.proofs.nodes.node_of.Goals as goal

pub returns-clause-node : goal.returns-clause-node
returns-clause-node c =
    let core = core_in c.args.superblock.now c.args.home.now.pages in
    let r = as_row c.args.row.now in
    let slot = rw c.core_range.ensures at c.slot_at-slot.ensures.slot in
    let body = body-at_row core c.args.ino r _ _ slot c.body_at-body.ensures in
    let content = rw c.slot_at-slot.ensures.pages at c.in_ok-content.ensures.content in
    node-parts core c.args.ino r _ _ _ (c.name_in.ensures ∙ ap (λ bytes. name_said (slot_of core.inodes bytes)) slot) (c.guard_in.ensures ∙ ap guard_in body) (content ∙ ap (content_of core r.kind) body)
