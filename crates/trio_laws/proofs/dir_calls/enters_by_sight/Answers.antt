use Rattle.trio_laws.proofs.session.DirCalls.{enters_walked, needs_write}
use Rattle.trio_laws.proofs.dir_calls.enters_by_sight.Goals as goal

pub returns : goal.returns
returns c = record { walked = enters_walked; write = needs_write }
