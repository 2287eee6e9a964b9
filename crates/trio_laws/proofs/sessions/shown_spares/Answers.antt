use Rattle.trio_laws.proofs.session.Spares.{shown_spares}
use Rattle.trio_laws.proofs.sessions.shown_spares.Goals as goal

pub returns : goal.returns
returns c = record { law = shown_spares }
