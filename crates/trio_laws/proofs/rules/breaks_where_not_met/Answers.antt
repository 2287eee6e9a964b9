use Rattle.trio_laws.proofs.judgement.Breaking.{breaks_where_not_met}
use Rattle.trio_laws.proofs.rules.breaks_where_not_met.Goals as goal

pub returns : goal.returns
returns c = record { law = breaks_where_not_met }
