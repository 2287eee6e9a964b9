use Rattle.trio_entries.proofs.Words.{◌++◌, ◌≡◌, numbers_in, take, vec_capacity}
use Rattle.trio_entries.proofs.outline.add_all.Given as goal

-- the numbers so far
abbrev pub invariant-loop-i : goal.invariant-loop-i
invariant-loop-i l =
    (l.pages.items ≡ l.fn.pages.items ++ take l.i (numbers_in l.source)) × (vec_capacity l.pages ≡ vec_capacity l.fn.pages)
