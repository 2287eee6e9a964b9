use Rattle.trio_runner.proofs.EndFree.{ends_free as the_law}
use Rattle.trio_runner.proofs.laws.ends_free.Goals as goal

pub returns : goal.returns
returns c = record { law = the_law }
