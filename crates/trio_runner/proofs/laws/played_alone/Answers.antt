use Rattle.trio_runner.proofs.Alone.{played_alone as the_law}
use Rattle.trio_runner.proofs.laws.played_alone.Goals as goal

pub returns : goal.returns
returns c = record { law = the_law }
