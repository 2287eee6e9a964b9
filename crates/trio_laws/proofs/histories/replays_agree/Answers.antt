use Rattle.trio_laws.proofs.history.Agree.{replay_is_known, replays_agree, out_is_logged}
use Rattle.trio_laws.proofs.histories.replays_agree.Goals as goal

pub returns : goal.returns
returns c = record { known = replay_is_known; agree = replays_agree; out = out_is_logged }
