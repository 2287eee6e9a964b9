use Rattle.trio_pool.proofs.Words.{IsForMails, ◌≡◌}
use Rattle.trio_pool.proofs.worker.send.Given as goal

abbrev pub invariant-loop : goal.invariant-loop
invariant-loop g l = IsForMails l.mails l.mail × (l.value ≡ l.initial.value)
