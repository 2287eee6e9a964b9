use Rattle.trio_laws.proofs.Isolation.{every_step_is_isolated}
use Rattle.trio_laws.proofs.laws.every_step_is_isolated.Goals as goal

pub returns : goal.returns
returns c = record { law = every_step_is_isolated }
