use Rattle.trio_entries.proofs.Words.{◌≡◌, file_numbers, flat_map, take, vec_capacity}
use Rattle.trio_entries.proofs.outline.add_pages.Given as goal

-- the numbers of the pages of the leases so far
abbrev pub invariant-loop-lease : goal.invariant-loop-lease
invariant-loop-lease l =
    (l.pages.items ≡ flat_map file_numbers (take l.lease-index l.bundle.writes)) × (vec_capacity l.pages ≡ vec_capacity l.fn.pages)
