use Rattle.trio_entries.proofs.Words.{◌++◌, ◌∙◌, Bool, ap, blocks_in, blocks_of_kind, handed_in, numbers_of, sym, whole_case}
use Rattle.trio_entries.proofs.blocks.add_told.Goals as goal

pub returns-then-told-clause-told : goal.returns-then-told-clause-told
returns-then-told-clause-told c = λ rows.
    let k = c.args.case.now in
    c.add_changed.ensures.told rows
    ∙ ap (λ (t : Bool). blocks_in k c.args.blocks.now.items ++ blocks_of_kind (whole_case k rows) c.args.notes.now (handed_in k.bundle) c.args.file.now t (numbers_of c.args.pages.now)) (sym c.if-told.true)
