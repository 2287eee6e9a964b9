use Rattle.trio_laws.proofs.judgement.Equivalence.{rules_are_accept}
use Rattle.trio_laws.proofs.rules.rules_are_accept.Goals as goal

pub returns : goal.returns
returns c = record { law = rules_are_accept }
