use Rattle.trio_turn.proofs.Closing.{not_empty, all_closed}
use Rattle.trio_turn.proofs.cell.Turn.close.Goals as goal

pub unreachable-requires : goal.unreachable-requires
unreachable-requires g c = let w = c.close_with-closed.ensures.values in let h = c.gather-token.ensures in
    not_empty g.T.Logged.first g.T.Logged.log g.T.Logged.begun _ _ c.gather-token.result.me.0 c.args.seats.items _ _ c.take.result h.token.2 h.libraries c.requires.every w.2 c.take.ensures.value c.in_default.is

pub returns-clause-seen : goal.returns-clause-seen
returns-clause-seen g c k s there = let w = c.close_with-closed.ensures.values in let h = c.gather-token.ensures in
    (all_closed g.T.Logged.first g.T.Logged.log g.T.Logged.begun _ _ c.gather-token.result.me.0 c.args.seats.items _ _ c.take.result c.in-Some.value h.token.2 h.libraries c.requires.every w.2 c.take.ensures.value c.in-Some.is k s there).0

pub returns-clause-mine : goal.returns-clause-mine
returns-clause-mine g c k s there = let w = c.close_with-closed.ensures.values in let h = c.gather-token.ensures in
    (all_closed g.T.Logged.first g.T.Logged.log g.T.Logged.begun _ _ c.gather-token.result.me.0 c.args.seats.items _ _ c.take.result c.in-Some.value h.token.2 h.libraries c.requires.every w.2 c.take.ensures.value c.in-Some.is k s there).1

pub returns-clause-first : goal.returns-clause-first
returns-clause-first g c k s there = let w = c.close_with-closed.ensures.values in let h = c.gather-token.ensures in
    (all_closed g.T.Logged.first g.T.Logged.log g.T.Logged.begun _ _ c.gather-token.result.me.0 c.args.seats.items _ _ c.take.result c.in-Some.value h.token.2 h.libraries c.requires.every w.2 c.take.ensures.value c.in-Some.is k s there).2

pub returns-clause-begun : goal.returns-clause-begun
returns-clause-begun g c k s there = let w = c.close_with-closed.ensures.values in let h = c.gather-token.ensures in
    (all_closed g.T.Logged.first g.T.Logged.log g.T.Logged.begun _ _ c.gather-token.result.me.0 c.args.seats.items _ _ c.take.result c.in-Some.value h.token.2 h.libraries c.requires.every w.2 c.take.ensures.value c.in-Some.is k s there).3
