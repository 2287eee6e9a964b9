use Rattle.trio_edit_laws.proofs.Guarding.{guard_shows}
use Rattle.trio_edit_laws.proofs.edits.guard_shows.Goals as goal

pub returns : goal.returns
returns c = record { law = guard_shows }
