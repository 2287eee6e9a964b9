use Rattle.trio_bench.proofs.Started.{free_started}
use Rattle.trio_bench.proofs.sessions.one_file.Goals as goal

pub returns-clause-none : goal.returns-clause-none
returns-clause-none c = free_started c.started.result _ c.started.ensures.started
