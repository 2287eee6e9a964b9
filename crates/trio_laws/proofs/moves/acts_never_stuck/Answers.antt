use Rattle.trio_laws.proofs.acts.TwoMoves.{acts_never_stuck}
use Rattle.trio_laws.proofs.moves.acts_never_stuck.Goals as goal

pub returns : goal.returns
returns c = record { law = acts_never_stuck }
