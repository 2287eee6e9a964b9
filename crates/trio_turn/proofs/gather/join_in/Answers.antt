use Rattle.trio_turn.proofs.Words.{◌∙◌, ap, carries, rules}
use Rattle.trio_turn.proofs.Parts.{joins}
use Rattle.trio_turn.proofs.Resting.{at_rest}
use Rattle.trio_turn.proofs.Closing.{idle_is_live, joined_libraries}
use Rattle.trio_turn.proofs.gather.join_in.Goals as goal

pub join_seat-requires : goal.join_seat-requires
join_seat-requires g c = let s = c.args.seat in let idle = at_rest s.ticket s.token.me.0.stage s.rests c.requires.seat.1 in (
  search rules,
  search rules,
  s.slot ∙ ap carries idle,
  search rules,
  joins g.T.Logged.first g.T.Logged.log g.T.Logged.begun _ _ c.args.token.now.me.0 _ s.token.me.0 (idle_is_live _ c.requires.token) idle,
)

pub returns-clause-libraries : goal.returns-clause-libraries
returns-clause-libraries g c = let s = c.args.seat in ap (λ m. m.0.libraries) c.join_seat.ensures.2 ∙ joined_libraries c.args.token.now.me.0 s.token.me.0 s.alone
