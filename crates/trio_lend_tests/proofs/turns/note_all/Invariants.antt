use Rattle.std.proofs.Common.{◌≡◌, None}
use Rattle.trio_turn.specs.Seats.{has, IsSameSeat}
use Rattle.trio_lend_tests.proofs.turns.note_all.Given as goal

abbrev pub invariant-loop-ino : goal.invariant-loop-ino
invariant-loop-ino g l = IsSameSeat l.initial.seat l.seat × (has l.seat ≡ None)
