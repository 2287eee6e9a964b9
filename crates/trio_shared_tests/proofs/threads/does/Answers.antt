use Rattle.trio_shared_tests.proofs.Writing.{written_on}
use Rattle.trio_shared_tests.proofs.threads.does.Goals as goal

pub returns-in-7-to-9 : goal.returns-in-7-to-9
returns-in-7-to-9 g c = written_on _ _ _ _ c.requires c.writes.ensures
