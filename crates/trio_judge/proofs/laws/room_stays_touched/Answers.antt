use Rattle.trio_judge.proofs.OtherBytes.{room_touched}
use Rattle.trio_judge.proofs.laws.room_stays_touched.Goals as goal

pub returns : goal.returns
returns c = record { law = room_touched }
