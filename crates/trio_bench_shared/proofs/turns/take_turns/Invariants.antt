use Rattle.std.proofs.Common.{◌≡◌, None}
use Rattle.trio_turn.specs.Seats.{has, IsSameSeat}
use Rattle.trio_bench_shared.proofs.turns.take_turns.Given as goal

abbrev pub invariant-loop : goal.invariant-loop
invariant-loop g l = IsSameSeat l.initial.seat l.seat × (has l.seat ≡ None)
