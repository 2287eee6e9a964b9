use Rattle.std.proofs.Common.{◌≡◌, None}
use Rattle.trio_lists.specs.Lists.{tabulated}
use Rattle.trio_auxdir.specs.Slots.{slot_on, slot_with}
use Rattle.trio_lend_tests.proofs.directories.is_first.Given as goal

abbrev pub invariant-loop-before : goal.invariant-loop-before
invariant-loop-before l = slot_with l.name (tabulated (slot_on 16384 l.page) l.before) ≡ None
