use Rattle.trio_edit_laws.proofs.Reading.{sees_bytes}
use Rattle.trio_edit_laws.proofs.edits.sees_bytes.Goals as goal

pub returns : goal.returns
returns c = record { law = sees_bytes }
