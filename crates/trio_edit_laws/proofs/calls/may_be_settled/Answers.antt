use Rattle.trio_edit_laws.proofs.Called.{may_be_settled}
use Rattle.trio_edit_laws.proofs.calls.may_be_settled.Goals as goal

pub returns : goal.returns
returns c = record { law = may_be_settled }
