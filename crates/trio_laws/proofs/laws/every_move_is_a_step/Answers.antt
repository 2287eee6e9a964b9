use Rattle.trio_laws.proofs.StateLaws.{every_move_is_a_step}
use Rattle.trio_laws.proofs.laws.every_move_is_a_step.Goals as goal

pub returns : goal.returns
returns c = record { law = every_move_is_a_step }
