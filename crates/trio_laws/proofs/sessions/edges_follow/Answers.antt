use Rattle.trio_laws.proofs.session.Edges.{edges_follow}
use Rattle.trio_laws.proofs.sessions.edges_follow.Goals as goal

pub returns : goal.returns
returns c = record { law = edges_follow }
