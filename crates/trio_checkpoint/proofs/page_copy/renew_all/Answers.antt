use Rattle.trio_checkpoint.proofs.Words.{arith, renewed}
use Rattle.std.proofs.lemmas.List.Edits.{map_over_more}
use Rattle.trio_checkpoint.proofs.page_copy.renew_all.Goals as goal

pub loop-copy-preserved : goal.loop-copy-preserved
loop-copy-preserved c =
    let turn = c.loop-copy in
    rw (c.renew.ensures, ← c.copy-item.is)
    (map_over_more (renewed c.args.page.0 c.args.slot c.args.body.now) c.args.copies.now turn.copies turn.copy-index c.copy-item.result
    (omega arith) turn.invariant c.copy-item.is)
