use Rattle.trio_laws.proofs.OthersOut.{others_keep_out}
use Rattle.trio_laws.proofs.outs.others_keep_out.Goals as goal

pub returns : goal.returns
returns c = record { law = others_keep_out }
