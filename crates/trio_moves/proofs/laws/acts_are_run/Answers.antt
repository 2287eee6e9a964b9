use Rattle.trio_moves.proofs.ActRuns.{acts_are_run}
use Rattle.trio_moves.proofs.laws.acts_are_run.Goals as goal

pub returns : goal.returns
returns c = record { law = acts_are_run }
