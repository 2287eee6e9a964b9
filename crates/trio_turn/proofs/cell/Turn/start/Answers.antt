use Rattle.trio_turn.proofs.Words.{◌++◌, ◌+◌, ◌∙◌, ◌∷◌, ◌≡◌, IsNew, [], arith, rules, subst}
use Rattle.std.proofs.lemmas.Grind.{common_steps}
use Rattle.trio_turn.proofs.Closing.{new_more}
use Rattle.trio_turn.proofs.cell.Turn.start.Goals as goal

pub loop-k-preserved : goal.loop-k-preserved
loop-k-preserved g c =
    let i = c.loop-k.invariant in let d = c.deal-seat.ensures in let k = c.loop-k.k in let x = c.of-told.result.value in let seat = c.deal-seat.result in
    let items : c.push.new.self.items ≡ c.loop-k.seats.items ++ seat ∷ [] = search rules in (
      d.dealer.0 ∙ i.0,
      d.dealer.1,
      grind (arith, common_steps),
      grind (arith, common_steps),
      new_more _ (g.T.Logged.first x) (g.T.Logged.begun x) c.loop-k.seats.items c.push.new.self.items k seat items i.2 i.4
          (subst (λ cell. IsNew cell (g.T.Logged.first x) (g.T.Logged.begun x (k + 1)) (k + 1) seat) i.0 d.seat),
    )

pub returns-clause-seats : goal.returns-clause-seats
returns-clause-seats g c = rw (← c.of-told.ensures) c.loop-k.invariant.4
