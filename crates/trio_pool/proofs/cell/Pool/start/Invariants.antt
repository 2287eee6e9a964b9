use Rattle.trio_pool.proofs.Words.{AllNew, IsPassOf, Some, [], length, vec_capacity, view, view_of, ◌≡◌, ◌≤◌}
use Rattle.trio_pool.proofs.cell.Pool.start.Given as goal

abbrev pub invariant-loop-number : goal.invariant-loop-number
invariant-loop-number g l = IsPassOf l.pool.queue l.dealer × (view l.dealer ≡ view_of (Some l.number) []) × (length l.all.items ≡ l.number) × (l.fn.passes ≤ vec_capacity l.all) × AllNew l.pool l.all.items
