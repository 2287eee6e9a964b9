use Rattle.trio_pool.specs.Mails.{IsForMails}
use Rattle.trio_lend_tests.proofs.pools.receive.Given as goal

abbrev pub invariant-loop : goal.invariant-loop
invariant-loop g l = IsForMails l.mails l.mail
