use Rattle.trio_turn.proofs.Words.{◌∙◌, [], ap, rules, unseated}
use Rattle.trio_turn.proofs.Parts.{seats}
use Rattle.trio_turn.proofs.Closing.{dealt}
use Rattle.trio_turn.proofs.turn.deal.Goals as goal

pub split_seat-token-requires : goal.split_seat-token-requires
split_seat-token-requires g c = let d = c.requires.dealer in
    (search rules, search rules, seats g.T.Logged.first g.T.Logged.log g.T.Logged.begun _ _ c.args.dealer.now.me.0 (ap (λ m. m.0.stage) d.1))

pub returns-clause-dealer : goal.returns-clause-dealer
returns-clause-dealer g c = let d = c.requires.dealer in let s = c.split_seat-token.ensures in (
  search rules,
  s.2 ∙ ap (λ m. (unseated m.0, m.1)) d.1 ∙ ap (λ v. (v, [])) (dealt g.T.Logged.first g.T.Logged.log g.T.Logged.begun c.args.value.now.value c.args.n c.args.dealt d.0),
)
