use Rattle.trio_entries.proofs.Words.{◌∙◌, None, ap, cond, row_in, sym}
use Rattle.trio_entries.proofs.FileLemmas.{after_unlisted}
use Rattle.trio_entries.proofs.told.row_unlisted.Goals as goal

pub returns-then-is_held : goal.returns-then-is_held
returns-then-is_held c =
    sym (after_unlisted c.args.listing.now.listing c.args.rows.now c.args.ino (sym c.in_default.ensures) c.requires.unlisted
    ∙ ap (λ t. cond t None (row_in c.args.rows.now c.args.ino)) (sym c.if-is_held.ensures))

pub returns : goal.returns
returns c =
    c.row.ensures
    ∙ sym (after_unlisted c.args.listing.now.listing c.args.rows.now c.args.ino (sym c.in_default.ensures) c.requires.unlisted
    ∙ ap (λ t. cond t None (row_in c.args.rows.now c.args.ino)) (sym c.if-is_held.ensures))
