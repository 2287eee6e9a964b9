use Rattle.trio_laws.proofs.history.Begins.{history_begins}
use Rattle.trio_laws.proofs.histories.history_begins.Goals as goal

pub returns : goal.returns
returns c = record { law = history_begins }
