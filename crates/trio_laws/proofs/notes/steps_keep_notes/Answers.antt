use Rattle.trio_laws.proofs.history.NotesSteps.{steps_keep_notes}
use Rattle.trio_laws.proofs.notes.steps_keep_notes.Goals as goal

pub returns : goal.returns
returns c = record { law = steps_keep_notes }
