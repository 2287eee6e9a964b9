use Rattle.trio_runner.proofs.History.{legal_is_history as the_law}
use Rattle.trio_runner.proofs.laws.legal_is_history.Goals as goal

pub returns : goal.returns
returns c = record { law = the_law }
