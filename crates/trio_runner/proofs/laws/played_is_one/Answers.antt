use Rattle.trio_runner.proofs.OnePlay.{played_is_one as the_law}
use Rattle.trio_runner.proofs.laws.played_is_one.Goals as goal

pub returns : goal.returns
returns c = record { law = the_law }
