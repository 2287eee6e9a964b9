use Rattle.trio_edit_laws.proofs.Beginning.{begins_to_edit}
use Rattle.trio_edit_laws.proofs.takings.begins_to_edit.Goals as goal

pub returns : goal.returns
returns c = record { law = begins_to_edit }
