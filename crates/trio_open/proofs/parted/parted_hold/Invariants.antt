use Rattle.trio_open.proofs.Words.{◌≡◌, bundle_in, drop, lowest_parted}
use Rattle.trio_open.proofs.PartedHolds.{lower_of}
use Rattle.trio_open.proofs.parted.parted_hold.Given as goal

abbrev pub invariant-loop-file : goal.invariant-loop-file
invariant-loop-file l = lower_of l.lowest (lowest_parted l.rows l.lib.0 (bundle_in l.bundle) (drop l.file-index l.files)) ≡ lowest_parted l.rows l.lib.0 (bundle_in l.bundle) l.files
