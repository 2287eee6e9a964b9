use Rattle.trio_turn.proofs.Words.{◌<◌, ◌∙◌, ap, length, rules, subst, sym}
use Rattle.trio_turn.proofs.Keeps.{draws}
use Rattle.trio_turn.proofs.steps.draw.Goals as goal

pub compare_exchange-found-requires : goal.compare_exchange-found-requires
compare_exchange-found-requires g c = let i = c.loop.invariant in (
  search rules,
  search rules,
  draws g.T.Logged.first g.T.Logged.log g.T.Logged.begun _ _ _ _ c.loop.token.me (ap (λ m. m.0.stage) i.1 ∙ c.requires.view.0) (subst (λ m. 0 < length m.0.libraries) (sym i.1) c.requires.view.1),
)
