use Rattle.trio_runner.proofs.Plays.{plays_more as the_law}
use Rattle.trio_runner.proofs.laws.plays_more.Goals as goal

pub returns : goal.returns
returns c = record { law = the_law }
