use Rattle.trio_edges.proofs.Words.{◌≡◌, comes_to_root, entry_seen, list_all, map, true}
use Rattle.std.proofs.Common.{take}
use Rattle.trio_edges.proofs.edges.Given as goal

abbrev pub invariant-loop-entry : goal.invariant-loop-entry
invariant-loop-entry l = list_all (comes_to_root l.listing.listing l.rows) (map entry_seen (take l.entry-index l.entry-items)) ≡ true
