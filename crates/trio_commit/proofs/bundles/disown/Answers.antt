use Rattle.trio_commit.proofs.Words.{◌∙◌, arith, lent_sheets, sheet_numbers}
use Rattle.trio_commit.proofs.Cells.{lent_number, next_below, set_next}
use Rattle.trio_commit.proofs.bundles.disown.Goals as goal

pub set-requires : goal.set-requires
set-requires c =
    let turn = c.loop-lent in
    let at = lent_number c.args.pages.now turn.lent-index c.lent-item.result (omega arith) c.lent-item.is in
    next_below 0 c.args.owners.now turn.owners (sheet_numbers (lent_sheets c.args.pages.now)) turn.lent-index c.lent-item.result.no.0 at.0 at.1 turn.invariant c.requires

pub loop-lent-preserved : goal.loop-lent-preserved
loop-lent-preserved c =
    let turn = c.loop-lent in
    let at = lent_number c.args.pages.now turn.lent-index c.lent-item.result (omega arith) c.lent-item.is in
    c.set.ensures
    ∙ set_next 0 c.args.owners.now turn.owners (sheet_numbers (lent_sheets c.args.pages.now)) turn.lent-index c.lent-item.result.no.0 at.0 at.1 turn.invariant
