use Rattle.trio_ctl.proofs.RecordedReleases.{lent_is_marked as the_law}
use Rattle.trio_ctl.proofs.desk_laws.lent_is_marked.Goals as goal

pub returns : goal.returns
returns c = record { law = the_law }
