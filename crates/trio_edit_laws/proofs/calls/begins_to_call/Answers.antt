use Rattle.trio_edit_laws.proofs.Called.{begins_to_call}
use Rattle.trio_edit_laws.proofs.calls.begins_to_call.Goals as goal

pub returns : goal.returns
returns c = record { law = begins_to_call }
