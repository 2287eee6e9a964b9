use Rattle.std.proofs.Common.{◌≡◌, ◌≤◌, ◌+◌, ◌++◌, [], get_or, length}
use Rattle.trio_session.specs.Seen.{pages_shown}
use Rattle.trio_deeds.proofs.Listing.{names_below}
use Rattle.trio_deeds.proofs.names.add_names.Given as goal

abbrev pub invariant-loop-slot : goal.invariant-loop-slot
invariant-loop-slot l =
    (l.names.items ≡ l.fn.names.items ++ names_below (get_or (pages_shown l.session l.dir) l.block []) l.slot) × (length l.names.items ≤ length l.fn.names.items + l.slot)
