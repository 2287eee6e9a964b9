use Rattle.trio_survey.proofs.Words.{arith}
use Rattle.trio_survey.proofs.verdict.row_fault.Goals as goal

pub row_fault_at-requires-clause-rows : goal.row_fault_at-requires-clause-rows
row_fault_at-requires-clause-rows c = c.requires.rows c.loop-k.k (omega arith)
