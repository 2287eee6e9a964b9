use Rattle.trio_open.proofs.Words.{◌∙◌}
use Rattle.trio_open.proofs.PartedHolds.{written_any}
use Rattle.trio_open.proofs.parted.is_written.Goals as goal

pub returns : goal.returns
returns c = c.has_lease.ensures ∙ written_any c.args.bundle.now c.args.ino
