use Rattle.trio_judge.proofs.OtherBytes.{room_still}
use Rattle.trio_judge.proofs.laws.room_stays_with_bytes.Goals as goal

pub returns : goal.returns
returns c = record { law = room_still }
