use Rattle.trio_laws.proofs.session.DirCalls.{refused_by_path}
use Rattle.trio_laws.proofs.dir_calls.refuses_paths.Goals as goal

pub returns : goal.returns
returns c = record { law = refused_by_path }
