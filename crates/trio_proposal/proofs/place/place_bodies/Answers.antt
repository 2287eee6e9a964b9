use Rattle.trio_proposal.proofs.Words.{arith}
use Rattle.trio_proposal.proofs.Placing.{one_below_more}
use Rattle.trio_proposal.proofs.place.place_bodies.Goals as goal

pub loop-ino-preserved : goal.loop-ino-preserved
loop-ino-preserved c =
    one_below_more c.args.rows.now c.args.kept.now c.loop-ino.ino c.args.home.now.pages c.loop-ino.home.pages c.place_body.new.home.pages (omega arith) c.loop-ino.invariant c.place_body.ensures
