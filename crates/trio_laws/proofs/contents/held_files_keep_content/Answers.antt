use Rattle.trio_laws.proofs.HeldFiles.{held_files_keep_content}
use Rattle.trio_laws.proofs.contents.held_files_keep_content.Goals as goal

pub returns : goal.returns
returns c = record { law = held_files_keep_content }
