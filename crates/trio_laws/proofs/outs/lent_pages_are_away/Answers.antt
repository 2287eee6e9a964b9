use Rattle.trio_laws.proofs.Away.{away_is_exact, every_state_is_away, starts_away, step_keeps_away}
use Rattle.trio_laws.proofs.outs.lent_pages_are_away.Goals as goal

pub returns : goal.returns
returns c = record { starts = starts_away; stays = step_keeps_away; exact = away_is_exact; law = every_state_is_away }
