use Rattle.trio_laws.proofs.Verdicts.{refusal_keeps}
use Rattle.trio_laws.proofs.laws.refusal_keeps.Goals as goal

pub returns : goal.returns
returns c = record { law = refusal_keeps }
