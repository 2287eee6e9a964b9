use Rattle.trio_pool.specs.Mails.{AllFor}
use Rattle.trio_pool.specs.Passes.{IsOf, OfEach}
use Rattle.trio_runner.proofs.workers.hands.Given as goal

abbrev pub invariant-loop : goal.invariant-loop
invariant-loop l = OfEach (IsOf l.pool) l.passes.items × AllFor l.mails l.mail_passes.items
