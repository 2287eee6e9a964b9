use Rattle.trio_judge.proofs.OtherBytes.{room_touched}
use Rattle.trio_ctl.proofs.pending.Pending.of.Goals as goal

pub invariant_of-result : goal.invariant_of-result
invariant_of-result c = rw c.touch_blocks.ensures (room_touched c.args.case c.args.room c.requires)
