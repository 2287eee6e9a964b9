use Rattle.trio_pool.proofs.Words.{rules}
use Rattle.trio_pool.proofs.MailKeeps.{mail_begins, mail_numbers}
use Rattle.trio_pool.proofs.mails.open_as.Goals as goal

pub ruled-requires-clause-rule : goal.ruled-requires-clause-rule
ruled-requires-clause-rule g c = mail_begins g.J.OfLibrary.library

pub another-requires-clause-rule : goal.another-requires-clause-rule
another-requires-clause-rule g c = mail_numbers g.J.OfLibrary.library _ _ g.K.Numbered.number (search rules)
