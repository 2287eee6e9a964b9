use Rattle.std.proofs.Common.{◌≡◌, ℕ, None, List, [], ◌∷◌, ◌++◌, length, length-append, slice_get, ap, ◌∙◌, arith}
use Rattle.atomic_table.specs.Seated.{TableId}
use Rattle.trio_turn.specs.Origins.{Origin}
use Rattle.trio_turn.specs.declared.seat.LibSeat.{LibSeat}
use Rattle.trio_turn.specs.Marks.{Mark}
use Rattle.trio_turn.specs.Seats.{IsNew, AllNew}
use Rattle.trio_lend_tests.proofs.turns.start_two.Goals as goal

-- the two seats that were popped
both : {T : Type 0} (cell : TableId) (origin : Origin) (marks : ℕ → Mark) (seats one none : List (LibSeat T)) (a b : LibSeat T) → AllNew cell origin marks seats → length seats ≡ 2
    → seats ≡ one ++ b ∷ [] → one ≡ none ++ a ∷ [] → IsNew cell origin (marks 1) 1 a × IsNew cell origin (marks 2) 2 b
both cell origin marks seats one [] a b all two p q =
    let is : seats ≡ a ∷ b ∷ [] = p ∙ ap (λ l. l ++ b ∷ []) q in (all 0 a (ap (λ l. slice_get l 0) is), all 1 b (ap (λ l. slice_get l 1) is))
both cell origin marks seats one (c ∷ none) a b all two p q =
    absurd (omega (arith, ap length p ∙ length-append one (b ∷ []), ap length q ∙ length-append (c ∷ none) (a ∷ [])))

pub returns-clause-cell : goal.returns-clause-cell
returns-clause-cell c = let s = c.in-Ok.ensures in
    let n = both _ _ (λ k. None) c.in-Ok.seats.items c.pop.new.self.items c.pop-2.new.self.items c.in-Some-pop.first c.in-Some.second s.seats s.libraries.1 c.in-Some.ensures.items c.in-Some-pop.ensures.items in
    (s.libraries.0, n.0.cell_is, n.1.cell_is)

pub returns-clause-seats : goal.returns-clause-seats
returns-clause-seats c = let s = c.in-Ok.ensures in
    let n = both _ _ (λ k. None) c.in-Ok.seats.items c.pop.new.self.items c.pop-2.new.self.items c.in-Some-pop.first c.in-Some.second s.seats s.libraries.1 c.in-Some.ensures.items c.in-Some-pop.ensures.items in
    (n.0.library_is, n.1.library_is, n.0.has_is, n.1.has_is)
