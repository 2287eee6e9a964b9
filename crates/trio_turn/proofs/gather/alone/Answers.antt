use Rattle.trio_turn.proofs.Words.{rules}
use Rattle.trio_turn.proofs.Parts.{copies}
use Rattle.trio_turn.proofs.Closing.{resting_live}
use Rattle.trio_turn.proofs.gather.alone.Goals as goal

pub split_seat-token-requires : goal.split_seat-token-requires
split_seat-token-requires g c = let s = c.args.seat in
    (search rules, search rules, copies g.T.Logged.first g.T.Logged.log g.T.Logged.begun _ _ s.token.me.0 (resting_live s.ticket s.token.me.0.stage s.rests))
