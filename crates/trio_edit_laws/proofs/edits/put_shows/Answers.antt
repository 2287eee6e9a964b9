use Rattle.trio_edit_laws.proofs.Puts.{put_shows}
use Rattle.trio_edit_laws.proofs.edits.put_shows.Goals as goal

pub returns : goal.returns
returns c = record { law = put_shows }
