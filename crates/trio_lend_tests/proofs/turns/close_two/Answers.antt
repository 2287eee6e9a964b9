use Rattle.std.proofs.Common.{rules, ◌≡◌, ℕ, zero, suc, List, [], ◌∷◌, slice_get, ap, arith}
use Rattle.trio_turn.specs.declared.seat.LibSeat.{LibSeat}
use Rattle.trio_turn.specs.Seats.{library, EverySeat}
use Rattle.trio_lend_tests.proofs.turns.close_two.Goals as goal

of_two : {T : Type 0} (n : ℕ) (seats : List (LibSeat T)) (a b : LibSeat T) → n ≡ 2 → seats ≡ a ∷ b ∷ [] → library a ≡ 1 → library b ≡ 2 → EverySeat n seats
of_two n seats a b two is first second zero low high = absurd (omega arith)
of_two n seats a b two is first second (suc zero) low high = (0, a, ap (λ xs. slice_get xs 0) is, first)
of_two n seats a b two is first second (suc (suc zero)) low high = (1, b, ap (λ xs. slice_get xs 1) is, second)
of_two n seats a b two is first second (suc (suc (suc l))) low high = absurd (omega arith)

pub close-requires-clause-every : goal.close-requires-clause-every
close-requires-clause-every c = of_two _ _ c.meet.new.a c.meet.new.b (search rules) (search rules) (search rules) (search rules)
