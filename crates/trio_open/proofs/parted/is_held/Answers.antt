use Rattle.trio_open.proofs.Words.{◌∙◌}
use Rattle.trio_open.proofs.PartedHolds.{held_any}
use Rattle.trio_open.proofs.parted.is_held.Goals as goal

pub returns : goal.returns
returns c = c.has_hold.ensures ∙ held_any c.args.bundle.now c.args.ino
