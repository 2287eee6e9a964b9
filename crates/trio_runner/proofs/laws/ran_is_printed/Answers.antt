use Rattle.trio_runner.proofs.RanPrinted.{ran_is_printed as the_law}
use Rattle.trio_runner.proofs.laws.ran_is_printed.Goals as goal

pub returns : goal.returns
returns c = record { law = the_law }
