use Rattle.trio_laws.proofs.history.NotesAccepted.{release_notes}
use Rattle.trio_laws.proofs.notes.release_notes.Goals as goal

pub returns : goal.returns
returns c = record { law = release_notes }
