use Rattle.trio_lease.proofs.Words.{◌++◌, ◌≡◌, as_touched, drop, map, take}
use Rattle.trio_lease.proofs.lent.touch_pages.Given as goal

-- the pages so far are marked, and the others as they were
abbrev pub invariant-loop-lent : goal.invariant-loop-lent
invariant-loop-lent l = l.pages ≡ map as_touched (take l.lent-index l.fn.pages) ++ drop l.lent-index l.fn.pages
