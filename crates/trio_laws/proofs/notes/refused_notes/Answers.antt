use Rattle.trio_laws.proofs.history.NotesSteps.{refused_notes}
use Rattle.trio_laws.proofs.notes.refused_notes.Goals as goal

pub returns : goal.returns
returns c = record { law = refused_notes }
