use Rattle.trio_turn.proofs.Words.{◌∙◌, ◌∷◌, Some, Waiting, ap, rest, rules, sym}
use Rattle.trio_turn.proofs.Resting.{took}
use Rattle.trio_turn.proofs.cell.Turn.take.Goals as goal

pub exchange-requires : goal.exchange-requires
exchange-requires g c = let w = c.wait.ensures.view in
    (search rules, (Some w.0, ap (λ m. m.1) w.1 ∙ sym (ap (λ m. (0, Some w.0) ∷ rest m.1) w.1)))

pub returns-clause-mine : goal.returns-clause-mine
returns-clause-mine g c = let w = c.wait.ensures.view in let e = c.exchange.ensures in let s = c.args.seat.now in
    (took g.T.Logged.first g.T.Logged.log g.T.Logged.begun s.token.me.0 c.draw-ticket.new.token.me.0 (Waiting c.draw-ticket.result) w.0 c.in-Some.value c.exchange.result c.wait.new.token.me.1 _ _
    (ap (λ m. m.0) c.draw-ticket.ensures.view) s.alone (ap (λ m. m.1) w.1) e.2 c.in-Some.is w.2).0

pub returns-clause-begun : goal.returns-clause-begun
returns-clause-begun g c = let w = c.wait.ensures.view in let e = c.exchange.ensures in let s = c.args.seat.now in
    (took g.T.Logged.first g.T.Logged.log g.T.Logged.begun s.token.me.0 c.draw-ticket.new.token.me.0 (Waiting c.draw-ticket.result) w.0 c.in-Some.value c.exchange.result c.wait.new.token.me.1 _ _
    (ap (λ m. m.0) c.draw-ticket.ensures.view) s.alone (ap (λ m. m.1) w.1) e.2 c.in-Some.is w.2).1
