use Rattle.trio_laws.proofs.Isolated.{others_untouched}
use Rattle.trio_laws.proofs.laws.others_untouched.Goals as goal

pub returns : goal.returns
returns c = record { law = others_untouched }
