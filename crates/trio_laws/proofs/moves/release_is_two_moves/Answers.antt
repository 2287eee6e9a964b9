use Rattle.trio_laws.proofs.acts.TwoMoves.{release_is_two_moves}
use Rattle.trio_laws.proofs.moves.release_is_two_moves.Goals as goal

pub returns : goal.returns
returns c = record { law = release_is_two_moves }
