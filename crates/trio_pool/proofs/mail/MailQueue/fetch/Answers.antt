use Rattle.trio_pool.proofs.MailKeeps.{mail_fetches}
use Rattle.trio_pool.proofs.mail.MailQueue.fetch.Goals as goal

pub try_pop_as-requires-clause-rule : goal.try_pop_as-requires-clause-rule
try_pop_as-requires-clause-rule g c = mail_fetches g.J.OfLibrary.library _ _ c.args.token.now.library c.args.token.now.numbered
