use Rattle.trio_turn.proofs.Words.{◌∙◌, ap, rules}
use Rattle.trio_turn.proofs.Parts.{copies, joins}
use Rattle.trio_turn.proofs.Closing.{resting_live, resting_looks, meets}
use Rattle.trio_turn.proofs.cell.Turn.meet.Goals as goal

pub look-requires-clause-view : goal.look-requires-clause-view
look-requires-clause-view g c = let a = c.args.a.now in resting_looks a.ticket a.token.me.0.stage a.rests

pub split_seat-copy-requires : goal.split_seat-copy-requires
split_seat-copy-requires g c = let b = c.args.b.now in
    (search rules, search rules, copies g.T.Logged.first g.T.Logged.log g.T.Logged.begun _ _ b.token.me.0 (resting_live b.ticket b.token.me.0.stage b.rests))

pub join_seat-requires : goal.join_seat-requires
join_seat-requires g c = let a = c.args.a.now in let s = c.split_seat-copy.ensures in let l = c.look.ensures in (
  l.same ∙ c.requires.cell.0,
  s.3 ∙ c.requires.cell.1,
  ap (λ m. m.1) s.4,
  search rules,
  joins g.T.Logged.first g.T.Logged.log g.T.Logged.begun _ _ c.look.new.token.me.0 _ c.split_seat-copy.result.me.0
      (resting_live a.ticket c.look.new.token.me.0.stage (rw l.view.0 a.rests)) (ap (λ m. m.0.stage) s.4),
)

pub look-requires-2-clause-view : goal.look-requires-2-clause-view
look-requires-2-clause-view g c = let a = c.args.a.now in rw (c.join_seat.ensures.2, c.look.ensures.view.0) (resting_looks a.ticket a.token.me.0.stage a.rests)

pub returns-clause-same : goal.returns-clause-same
returns-clause-same g c =
    let a = c.args.a.now in let l = c.look.ensures in let j = c.join_seat.ensures in let k = c.look-2.ensures in
    let e = meets g.T.Logged.first g.T.Logged.log g.T.Logged.begun a.token.me.0 c.args.b.now.token.me.0 c.split_seat-copy.result.me.0 a.token.me.1 c.look.new.token.me c.join_seat.new.seat.me c.look-2.new.token.me
    a.alone l.view.0 (ap (λ m. m.0) c.split_seat-copy.ensures.4) j.2 k.view.0 l.view.1 k.view.1 in (k.same ∙ (j.0 ∙ l.same), e.0, e.1)

pub returns-clause-own : goal.returns-clause-own
returns-clause-own g c =
    let a = c.args.a.now in let l = c.look.ensures in let j = c.join_seat.ensures in let k = c.look-2.ensures in
    let e = meets g.T.Logged.first g.T.Logged.log g.T.Logged.begun a.token.me.0 c.args.b.now.token.me.0 c.split_seat-copy.result.me.0 a.token.me.1 c.look.new.token.me c.join_seat.new.seat.me c.look-2.new.token.me
    a.alone l.view.0 (ap (λ m. m.0) c.split_seat-copy.ensures.4) j.2 k.view.0 l.view.1 k.view.1 in (e.4, e.2, e.3)

pub returns-clause-saw : goal.returns-clause-saw
returns-clause-saw g c =
    let a = c.args.a.now in let l = c.look.ensures in let j = c.join_seat.ensures in let k = c.look-2.ensures in
    let e = meets g.T.Logged.first g.T.Logged.log g.T.Logged.begun a.token.me.0 c.args.b.now.token.me.0 c.split_seat-copy.result.me.0 a.token.me.1 c.look.new.token.me c.join_seat.new.seat.me c.look-2.new.token.me
    a.alone l.view.0 (ap (λ m. m.0) c.split_seat-copy.ensures.4) j.2 k.view.0 l.view.1 k.view.1 in (e.5, e.6)

pub returns-clause-in_line : goal.returns-clause-in_line
returns-clause-in_line g c =
    let a = c.args.a.now in let l = c.look.ensures in let j = c.join_seat.ensures in let k = c.look-2.ensures in
    let e = meets g.T.Logged.first g.T.Logged.log g.T.Logged.begun a.token.me.0 c.args.b.now.token.me.0 c.split_seat-copy.result.me.0 a.token.me.1 c.look.new.token.me c.join_seat.new.seat.me c.look-2.new.token.me
    a.alone l.view.0 (ap (λ m. m.0) c.split_seat-copy.ensures.4) j.2 k.view.0 l.view.1 k.view.1 in e.7
