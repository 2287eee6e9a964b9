use Rattle.trio_commit.proofs.Words.{◌∙◌, ap}
use Rattle.std.proofs.Common.{is_some}
use Rattle.trio_commit.proofs.Naming.{listed_by_dir}
use Rattle.trio_commit.proofs.gone.is_listed.Goals as goal

pub returns : goal.returns
returns c = c.is_some.ensures ∙ ap is_some c.dir.ensures ∙ listed_by_dir c.args.listing.now.listing c.args.ino
