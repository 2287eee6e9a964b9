use Rattle.trio_laws.proofs.session.Moments.{moment_lasts, moment_lasts_back}
use Rattle.trio_laws.proofs.sessions.moment_lasts.Goals as goal

pub returns : goal.returns
returns c = record { others = moment_lasts; back = moment_lasts_back }
