use Rattle.trio_pool.proofs.Words.{HasEach, IsPassOf, Knows, List, PoolPass, length, view, ◌++◌, ◌≡◌}
use Rattle.trio_pool.proofs.closing.gather.Given as goal

-- the passes that are not left are joined
abbrev pub invariant-loop-other : goal.invariant-loop-other
invariant-loop-other g l =
    IsPassOf l.pool.queue l.token
    × ((joined : List (PoolPass g.row.C.Denot)) × (l.fn.passes.items ≡ l.passes.items ++ joined) × HasEach (view l.token).accounts joined × Knows l.pool.passes (view l.token).next joined)

abbrev pub decreases-loop-other : goal.decreases-loop-other
decreases-loop-other g l = length l.passes.items
