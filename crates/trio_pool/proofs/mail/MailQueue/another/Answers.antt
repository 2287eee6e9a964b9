use Rattle.trio_pool.proofs.MailKeeps.{mail_copies}
use Rattle.trio_pool.proofs.mail.MailQueue.another.Goals as goal

pub another-copy-requires-clause-rule : goal.another-copy-requires-clause-rule
another-copy-requires-clause-rule g c = mail_copies g.J.OfLibrary.library _ _ c.args.token.now.library c.args.token.now.numbered
