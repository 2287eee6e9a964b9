use Rattle.trio_open.proofs.Words.{◌≡◌, FreshParts, In, length, take}
use Rattle.trio_open.proofs.full.are_pages_full.Given as goal

-- those so far
abbrev pub invariant-loop-fresh : goal.invariant-loop-fresh
invariant-loop-fresh l = (p : FreshParts) → In p (take l.fresh-index l.pages) → length p.page ≡ 4096
