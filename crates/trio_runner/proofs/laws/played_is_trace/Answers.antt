use Rattle.trio_runner.proofs.Plays.{played_is_trace as the_law}
use Rattle.trio_runner.proofs.laws.played_is_trace.Goals as goal

pub returns : goal.returns
returns c = record { law = the_law }
