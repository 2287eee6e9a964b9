use Rattle.trio_commit.proofs.Words.{◌∙◌, arith, get_or, refl}
use Rattle.trio_commit.proofs.Cells.{next_below, set_next}
use Rattle.trio_commit.proofs.owners.give.Goals as goal

pub set-requires : goal.set-requires
set-requires c =
    let turn = c.loop-page in
    next_below c.args.ino c.args.owners.now turn.owners c.args.pages.now turn.page-index (get_or c.args.pages.now turn.page-index 0) (omega arith) refl turn.invariant c.requires

pub loop-page-preserved : goal.loop-page-preserved
loop-page-preserved c =
    let turn = c.loop-page in
    c.set.ensures
    ∙ set_next c.args.ino c.args.owners.now turn.owners c.args.pages.now turn.page-index (get_or c.args.pages.now turn.page-index 0) (omega arith) refl turn.invariant
