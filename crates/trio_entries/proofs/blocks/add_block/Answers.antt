use Rattle.trio_entries.proofs.Words.{◌++◌, ◌∙◌, ◌∷◌, [], ap, append-nil, block_in, block_told, blocks_in, cond, handed_in, map-append, sym, whole_case}
use Rattle.trio_entries.proofs.blocks.add_block.Goals as goal

pub returns-then-is_changed-clause-told : goal.returns-then-is_changed-clause-told
returns-then-is_changed-clause-told c = λ rows.
    let k = c.args.case.now in
    let h = handed_in k.bundle in
    let old = c.args.blocks.now.items in
    let told = block_told (whole_case k rows) c.args.file.now.ino c.args.at c.args.page in
    let changed = sym (c.is_changed.ensures rows h c.requires.marked) ∙ c.if-is_changed.true in
    ap (blocks_in k) c.push_reserved.ensures.items ∙ map-append (block_in h) old (c.block.result ∷ [])
    ∙ ap (λ b. blocks_in k old ++ b ∷ []) (c.block.ensures rows) ∙ ap (λ t. blocks_in k old ++ cond t (told ∷ []) []) (sym changed)

pub returns-else-is_changed-clause-told : goal.returns-else-is_changed-clause-told
returns-else-is_changed-clause-told c = λ rows.
    let k = c.args.case.now in
    let h = handed_in k.bundle in
    let old = c.args.blocks.now.items in
    let told = block_told (whole_case k rows) c.args.file.now.ino c.args.at c.args.page in
    let changed = sym (c.is_changed.ensures rows h c.requires.marked) ∙ c.if-is_changed.false in
    sym (ap (λ t. blocks_in k old ++ cond t (told ∷ []) []) changed ∙ append-nil (blocks_in k old))
