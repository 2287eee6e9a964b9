use Rattle.trio_case.proofs.Words.{◌+◌, ◌≡◌, flat_map, length, take}
use Rattle.trio_case.proofs.Making.{file_numbers}
use Rattle.trio_case.proofs.kept.page_count.Given as goal

-- the allotted pages, and those of the leases so far
abbrev pub invariant-loop-lease : goal.invariant-loop-lease
invariant-loop-lease l = l.count ≡ length (flat_map file_numbers (take l.lease-index l.bundle.writes)) + length l.bundle.pages
