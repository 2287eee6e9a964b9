use Rattle.trio_laws.proofs.StateLaws.{every_state_is_kept}
use Rattle.trio_laws.proofs.laws.every_state_is_kept.Goals as goal

pub returns : goal.returns
returns c = record { law = every_state_is_kept }
