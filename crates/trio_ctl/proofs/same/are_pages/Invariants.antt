use Rattle.trio_ctl.proofs.Words.{◌++◌, ◌≡◌, file_pages, flat_map, take}
use Rattle.trio_ctl.proofs.same.are_pages.Given as goal

-- the pages begin with those of the leases so far
abbrev pub invariant-loop-lease : goal.invariant-loop-lease
invariant-loop-lease l = l.pages ≡ flat_map file_pages (take l.lease-index l.bundle.writes) ++ l.rest
