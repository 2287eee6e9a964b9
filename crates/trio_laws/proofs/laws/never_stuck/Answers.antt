use Rattle.trio_laws.proofs.StateLaws.{never_stuck}
use Rattle.trio_laws.proofs.laws.never_stuck.Goals as goal

pub returns : goal.returns
returns c = record { law = never_stuck }
