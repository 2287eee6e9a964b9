use Rattle.trio_moves.proofs.ActRuns.{begun_stays_given}
use Rattle.trio_moves.proofs.laws.begun_stays_given.Goals as goal

pub returns : goal.returns
returns c = record { law = begun_stays_given }
