use Rattle.trio_entries.proofs.Words.{◌++◌, ◌≡◌, file_numbers, flat_map, take}
use Rattle.trio_entries.proofs.outline.are_pages.Given as goal

-- the numbers begin with those of the leases so far
abbrev pub invariant-loop-lease : goal.invariant-loop-lease
invariant-loop-lease l = l.pages ≡ flat_map file_numbers (take l.lease-index l.bundle.writes) ++ l.rest
