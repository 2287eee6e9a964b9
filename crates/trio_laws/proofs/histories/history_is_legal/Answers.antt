use Rattle.trio_laws.proofs.history.Begins.{history_is_legal}
use Rattle.trio_laws.proofs.histories.history_is_legal.Goals as goal

pub returns : goal.returns
returns c = record { law = history_is_legal }
