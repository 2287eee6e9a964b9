use Rattle.trio_turn.proofs.Words.{rules}
use Rattle.trio_turn.proofs.Keeps.{passes_at}
use Rattle.trio_turn.proofs.steps.pass.Goals as goal

pub store-requires : goal.store-requires
store-requires g c = let v = c.requires.view in
    (search rules, search rules, passes_at g.T.Logged.first g.T.Logged.log g.T.Logged.begun _ _ _ c.args.ticket c.args.token.now.me v.0 v.1 v.2)
