use Rattle.std.proofs.Common.{◌≡◌}
use Rattle.trio_auxdir.specs.Slots.{NamesDiffer}
use Rattle.trio_lend_tests.proofs.directories.scan_all.Given as goal

abbrev pub invariant-loop-page : goal.invariant-loop-page
invariant-loop-page l = record {
  inodes : l.dir.inodes ≡ 16384;
  differ : NamesDiffer l.dir.slots;
}
