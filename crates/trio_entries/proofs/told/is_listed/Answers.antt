use Rattle.trio_entries.proofs.Words.{◌∙◌, ap, is_some}
use Rattle.trio_entries.proofs.FileLemmas.{listed_by_dir}
use Rattle.trio_entries.proofs.told.is_listed.Goals as goal

pub returns : goal.returns
returns c = c.is_some.ensures ∙ ap is_some c.dir.ensures ∙ listed_by_dir c.args.listing.now.listing c.args.ino
