use Rattle.trio_pool.proofs.Words.{Closing, IsPassOf, sent_count, took_count, vec_capacity, view, ◌-◌, ◌≤◌}
use Rattle.trio_pool.proofs.cell.Pool.close.Given as goal

abbrev pub invariant-loop-job : goal.invariant-loop-job
invariant-loop-job g l = IsPassOf l.self.queue l.token × (l.self.queue.cap ≤ vec_capacity l.cases) × Closing l.self.passes l.self.queue.cap l.fn.passes.items (view l.token) l.cases.items

abbrev pub decreases-loop-job : goal.decreases-loop-job
decreases-loop-job g l = sent_count (view l.token) - took_count (view l.token)
