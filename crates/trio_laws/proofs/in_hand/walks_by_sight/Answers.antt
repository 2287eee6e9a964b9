use Rattle.trio_laws.proofs.session.FileCalls.{enters_by, walks_by}
use Rattle.trio_laws.proofs.in_hand.walks_by_sight.Goals as goal

pub returns : goal.returns
returns c = record { enters = enters_by; step = walks_by }
