use Rattle.trio_laws.proofs.session.AcceptedShown.{accepted_is_shown}
use Rattle.trio_laws.proofs.session.Settling.{places_stay}
use Rattle.trio_laws.proofs.sessions.accepted_is_shown.Goals as goal

pub returns : goal.returns
returns c = record { law = accepted_is_shown; places = places_stay }
