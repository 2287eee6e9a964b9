use Rattle.trio_commit.proofs.Words.{arith, as_before}
use Rattle.std.proofs.lemmas.List.Edits.{map_over_more}
use Rattle.trio_commit.proofs.restoring.give_bodies_back.Goals as goal

pub loop-lease-preserved : goal.loop-lease-preserved
loop-lease-preserved c =
    let turn = c.loop-lease in
    rw (c.give_body_back.ensures, ← c.lease-item.is)
    (map_over_more (as_before c.args.checkpoints.now) c.args.writes.now turn.writes turn.lease-index c.lease-item.result
    (omega arith) turn.invariant c.lease-item.is)
