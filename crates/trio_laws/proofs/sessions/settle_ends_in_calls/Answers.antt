use Rattle.trio_laws.proofs.session.Settling.{settle_ends_in_calls, settle_is_recorded}
use Rattle.trio_laws.proofs.sessions.settle_ends_in_calls.Goals as goal

pub returns : goal.returns
returns c = record { law = settle_ends_in_calls; recorded = settle_is_recorded }
