use Rattle.trio_ctl.proofs.Committing.{commit_is_next as the_law}
use Rattle.trio_ctl.proofs.commit_laws.commit_is_next.Goals as goal

pub returns : goal.returns
returns c = record { law = the_law }
