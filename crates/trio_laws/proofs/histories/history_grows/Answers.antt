use Rattle.trio_laws.proofs.history.Grows.{history_grows}
use Rattle.trio_laws.proofs.histories.history_grows.Goals as goal

pub returns : goal.returns
returns c = record { law = history_grows }
