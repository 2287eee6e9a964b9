use Rattle.trio_laws.proofs.StateLaws.{every_release_is_judged}
use Rattle.trio_laws.proofs.laws.every_release_is_judged.Goals as goal

pub returns : goal.returns
returns c = record { law = every_release_is_judged }
