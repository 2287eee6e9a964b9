use Rattle.trio_turn.proofs.Words.{◌+◌, ◌-◌, ◌≡◌, ◌≤◌, AllNew, [], dealing, length}
use Rattle.std.proofs.Common.{vec_capacity}
use Rattle.trio_turn.proofs.cell.Turn.start.Given as goal

abbrev pub invariant-loop-k : goal.invariant-loop-k
invariant-loop-k g l =
    (l.dealer.table_id ≡ l.table.shared.table_id) × (l.dealer.me ≡ (dealing g.T.Logged.first g.T.Logged.log g.T.Logged.begun l.told.value (l.k + 1) (l.fn.n - l.k), []))
    × (length l.seats.items ≡ l.k) × (l.fn.n ≤ vec_capacity l.seats) × AllNew l.table.shared.table_id (g.T.Logged.first l.told.value) (g.T.Logged.begun l.told.value) l.seats.items
