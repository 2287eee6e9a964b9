use Rattle.trio_runner.proofs.RanAlone.{ran_alone as the_law}
use Rattle.trio_runner.proofs.laws.ran_alone.Goals as goal

pub returns : goal.returns
returns c = record { law = the_law }
