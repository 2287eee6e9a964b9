use Rattle.trio_turn.proofs.Words.{◌<◌, ◌∙◌, ap, length, rules, subst, sym}
use Rattle.trio_turn.proofs.Keeps.{reads}
use Rattle.trio_turn.proofs.steps.wait.Goals as goal

pub load-requires : goal.load-requires
load-requires g c = let i = c.loop.invariant in (
  search rules,
  search rules,
  reads g.T.Logged.first g.T.Logged.log g.T.Logged.begun _ _ _ c.args.ticket c.loop.token.me (ap (λ m. m.0.stage) i.1 ∙ c.requires.view.0) (subst (λ m. 0 < length m.0.libraries) (sym i.1) c.requires.view.1),
)
