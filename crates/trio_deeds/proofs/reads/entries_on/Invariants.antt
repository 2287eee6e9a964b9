use Rattle.std.proofs.Common.{◌≡◌, ◌≤◌}
use Rattle.trio_deeds.specs.Reads.{entries_within}
use Rattle.trio_deeds.proofs.reads.entries_on.Given as goal

abbrev pub invariant-loop-slot : goal.invariant-loop-slot
invariant-loop-slot l = (l.count ≡ entries_within l.slot l.page) × (l.count ≤ l.slot)
