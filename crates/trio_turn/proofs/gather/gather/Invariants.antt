use Rattle.trio_turn.proofs.Words.{◌++◌, ◌≡◌, HasEach, Idle, LibSeat, List, [], length}
use Rattle.trio_turn.proofs.gather.gather.Given as goal

-- the seats that are not left are joined
abbrev pub invariant-loop-seat : goal.invariant-loop-seat
invariant-loop-seat g l =
    (l.token.table_id ≡ l.initial.token.table_id) × (l.token.me.1 ≡ []) × (l.token.me.0.stage ≡ Idle)
    × ((joined : List (LibSeat g.row.T.Denot)) × (l.fn.seats.items ≡ l.seats.items ++ joined) × HasEach l.token.me.0.libraries joined)

abbrev pub decreases-loop-seat : goal.decreases-loop-seat
decreases-loop-seat g l = length l.seats.items
