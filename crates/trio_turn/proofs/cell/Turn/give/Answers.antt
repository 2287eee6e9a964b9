use Rattle.trio_turn.proofs.Words.{◌∙◌, ap}
use Rattle.trio_turn.specs.Seats.{has}
use Rattle.trio_turn.proofs.Resting.{some_of, of_some, may_count, may_pass}
use Rattle.trio_turn.proofs.cell.Turn.give.Goals as goal

pub count-requires-clause-view : goal.count-requires-clause-view
count-requires-clause-view g c = let s = c.args.seat.now in let q = c.requires in let v = some_of (has s) q.has in
    may_count g.T.Logged.first g.T.Logged.log g.T.Logged.begun s.ticket s.token.me.0 v.0 c.args.value s.rests s.alone v.1
    (of_some _ (has s) v.0 v.1 q.grew) (of_some _ (has s) v.0 v.1 q.first) (of_some _ (has s) v.0 v.1 q.others)

pub pass-requires-clause-view : goal.pass-requires-clause-view
pass-requires-clause-view g c = let e = c.exchange-before.ensures in let d = c.count.ensures in let s = c.args.seat.now in let v = some_of (has s) c.requires.has in
    may_pass g.T.Logged.first g.T.Logged.log g.T.Logged.begun s.ticket s.token.me.0 c.exchange-before.new.seat.me.0 v.0 c.args.value c.count.new.token.me.1 c.exchange-before.new.seat.me.1 s.rests v.1
    (ap (λ m. m.1) d.view ∙ s.slot) (ap (λ m. m.0) e.3 ∙ ap (λ m. m.0) d.view) (ap (λ m. m.1) e.3)
