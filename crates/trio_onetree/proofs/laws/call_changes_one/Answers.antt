use Rattle.trio_onetree.proofs.Changes.{call_changes_one}
use Rattle.trio_onetree.proofs.laws.call_changes_one.Goals as goal

pub returns : goal.returns
returns c = record { law = call_changes_one }
