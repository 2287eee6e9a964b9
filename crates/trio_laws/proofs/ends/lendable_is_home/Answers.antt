use Rattle.trio_laws.proofs.EndLaws.{lendable_is_home}
use Rattle.trio_laws.proofs.ends.lendable_is_home.Goals as goal

pub returns : goal.returns
returns c = record { law = lendable_is_home }
