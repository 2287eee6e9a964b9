use Rattle.trio_edit_laws.proofs.Growing.{grow_gets}
use Rattle.trio_edit_laws.proofs.edits.grow_shows.Goals as goal

pub returns : goal.returns
returns c = record { law = λ desk s ino size limits m spare o le largest room. grow_gets desk s ino size limits m spare o le largest room }
