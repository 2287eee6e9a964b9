use Rattle.trio_pool.proofs.Words.{Some, ap, sym, ◌∙◌}
use Rattle.trio_pool.proofs.MailKeeps.{mail_posts}
use Rattle.trio_pool.proofs.mail.MailQueue.post.Goals as goal

pub try_push_as-requires-clause-rule : goal.try_push_as-requires-clause-rule
try_push_as-requires-clause-rule g c = mail_posts g.J.OfLibrary.library _ _ _ _ (c.args.token.now.numbered ∙ ap (λ k. Some k) (sym c.requires.library))
