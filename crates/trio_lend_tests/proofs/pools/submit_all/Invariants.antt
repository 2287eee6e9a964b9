use Rattle.trio_pool.specs.Passes.{IsOf}
use Rattle.trio_pool.specs.Mails.{IsForMails}
use Rattle.trio_lend_tests.proofs.pools.submit_all.Given as goal

abbrev pub invariant-loop-number : goal.invariant-loop-number
invariant-loop-number g l = IsOf l.pool l.pass × IsForMails l.mails l.mail
