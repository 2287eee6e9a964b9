use Rattle.trio_turn.proofs.Words.{rules}
use Rattle.trio_turn.proofs.Keeps.{looks}
use Rattle.trio_turn.proofs.Closing.{looked}
use Rattle.trio_turn.proofs.steps.look.Goals as goal

pub load-requires : goal.load-requires
load-requires g c = (search rules, search rules, looks g.T.Logged.first g.T.Logged.log g.T.Logged.begun _ _ _ c.args.token.now.me c.requires.view)

pub returns-clause-view : goal.returns-clause-view
returns-clause-view g c = let m = c.args.token.now.me in looked g.T.Logged.first g.T.Logged.log g.T.Logged.begun m.0.stage m c.load.new.seat.me c.load.result c.requires.view c.load.ensures.2
