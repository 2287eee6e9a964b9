use Rattle.trio_edit_laws.proofs.Cutting.{cut_gets}
use Rattle.trio_edit_laws.proofs.edits.cut_shows.Goals as goal

pub returns : goal.returns
returns c = record { law = λ desk s ino size m o le. cut_gets desk s ino size m o le }
