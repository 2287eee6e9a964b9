use Rattle.trio_surveys.proofs.Statements.{file_keeps}
use Rattle.trio_surveys.proofs.surveys.file_keeps.Goals as goal

pub returns : goal.returns
returns c = record { law = file_keeps }
