use Rattle.std.proofs.Common.{◌≡◌, ◌++◌, true}
use Rattle.std.specs.Result.{is_ok}
use Rattle.trio_layout.specs.Entries.{slot_entries}
use Rattle.trio_lists.specs.Lists.{gathered_below, tabulated}
use Rattle.trio_auxdir.specs.Slots.{slot_on, NamesDiffer}
use Rattle.trio_lend_tests.proofs.directories.may_scan.Given as goal

abbrev pub invariant-loop-slot : goal.invariant-loop-slot
invariant-loop-slot l = record {
  read : is_ok (gathered_below (slot_entries 16384 0 l.page) l.slot) ≡ true;
  differ : NamesDiffer l.dir.slots → NamesDiffer (l.dir.slots ++ tabulated (slot_on 16384 l.page) l.slot);
}
