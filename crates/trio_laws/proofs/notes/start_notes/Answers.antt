use Rattle.trio_laws.proofs.history.NotesStart.{start_notes}
use Rattle.trio_laws.proofs.notes.start_notes.Goals as goal

pub returns : goal.returns
returns c = record { law = start_notes }
