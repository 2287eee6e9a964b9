use Rattle.trio_commit.proofs.Words.{arith}
use Rattle.trio_commit.proofs.PutBack.{next_put_back, next_within}
use Rattle.trio_commit.proofs.restoring.restore_written.Goals as goal

pub restore-requires : goal.restore-requires
restore-requires c =
    let turn = c.loop-lease in
    rw c.ino.ensures
    (next_within c.args.checkpoints.now.items turn.checkpoints.items turn.home c.args.home.now c.args.writes.now turn.lease-index c.lease-item.result
    (omega arith) c.lease-item.is c.requires.once turn.invariant c.requires.covered)

pub loop-lease-preserved : goal.loop-lease-preserved
loop-lease-preserved c =
    let turn = c.loop-lease in
    next_put_back c.args.checkpoints.now.items turn.checkpoints.items turn.home c.args.home.now c.args.writes.now turn.lease-index c.lease-item.result
    (omega arith) c.lease-item.is c.requires.once turn.invariant c.restore.new.checkpoints.items c.restore.new.home
    (rw c.ino.ensures at c.restore.ensures.checkpoints) (rw c.ino.ensures at c.restore.ensures.home)
