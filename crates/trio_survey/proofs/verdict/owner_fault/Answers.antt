use Rattle.trio_survey.proofs.Words.{arith}
use Rattle.trio_survey.proofs.verdict.owner_fault.Goals as goal

pub owner_fault_at-requires-clause-owners : goal.owner_fault_at-requires-clause-owners
owner_fault_at-requires-clause-owners c = c.requires.owners c.loop-k.k (omega arith)
