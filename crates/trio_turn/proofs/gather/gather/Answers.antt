use Rattle.trio_turn.proofs.Words.{◌++◌, ◌∙◌, ◌∷◌, ◌≡◌, [], ap, append_assoc, length, rules, slice_get}
use Rattle.trio_turn.proofs.Closing.{get_last, get_front, one_more}
use Rattle.trio_turn.proofs.gather.gather.Goals as goal

pub alone-token-requires-clause-seat : goal.alone-token-requires-clause-seat
alone-token-requires-clause-seat g c =
    let all : c.args.seats.items ≡ c.pop.new.self.items ++ c.in-Some.last ∷ [] = search rules in
    let last = ap (λ l. slice_get l (length c.pop.new.self.items)) all ∙ get_last c.pop.new.self.items c.in-Some.last in
    (c.requires.cell (length c.pop.new.self.items) c.in-Some.last last, c.requires.free (length c.pop.new.self.items) c.in-Some.last last)

pub join_in-requires-clause-seat : goal.join_in-requires-clause-seat
join_in-requires-clause-seat g c =
    let new = c.pop-in-loop-seat.new.self.items in
    let all : c.loop-seat.seats.items ≡ new ++ c.in-Some-pop.seat ∷ [] = search rules in let i = c.loop-seat.invariant in
    let there = ap (λ l. slice_get l (length new)) i.3.1
    ∙ get_front c.loop-seat.seats.items i.3.0 (length new) c.in-Some-pop.seat (ap (λ l. slice_get l (length new)) all ∙ get_last new c.in-Some-pop.seat) in
    (c.requires.cell (length new) c.in-Some-pop.seat there, c.requires.free (length new) c.in-Some-pop.seat there)

pub loop-seat-preserved : goal.loop-seat-preserved
loop-seat-preserved g c =
    let new = c.pop-in-loop-seat.new.self.items in let s = c.in-Some-pop.seat in
    let all : c.loop-seat.seats.items ≡ new ++ s ∷ [] = search rules in let i = c.loop-seat.invariant in let j = c.join_in.ensures in (
      j.token.0 ∙ i.0,
      j.token.1 ∙ i.1,
      j.token.2,
      (s ∷ i.3.0, i.3.1 ∙ (ap (λ l. l ++ i.3.0) all ∙ append_assoc new (s ∷ []) i.3.0), one_more c.loop-seat.token.me.0.libraries c.join_in.new.token.me.0.libraries i.3.0 s j.libraries i.3.2),
    )
