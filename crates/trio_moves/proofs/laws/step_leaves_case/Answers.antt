use Rattle.trio_moves.proofs.CopiedStay.{step_leaves_case}
use Rattle.trio_moves.proofs.laws.step_leaves_case.Goals as goal

pub returns : goal.returns
returns c = record { law = step_leaves_case }
