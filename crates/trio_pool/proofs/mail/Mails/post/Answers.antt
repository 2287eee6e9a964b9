use Rattle.trio_pool.proofs.Words.{length, refl, rules, slice_get_read, ◌-◌, ◌<◌, ◌∙◌}
use Rattle.trio_pool.proofs.MailFit.{fits_set, set_length}
use Rattle.trio_pool.proofs.mail.Mails.post.Goals as goal

pub returns-clause-mail : goal.returns-clause-mail
returns-clause-mail g c =
    let t = c.index_mut.result.now in let tokens = c.args.mail.now.tokens.items in
    let within : c.lib.result.0 - 1 < length tokens = search rules in
    let there = slice_get_read tokens (length tokens) (c.lib.result.0 - 1) t refl within c.index_mut.ensures.value in
    (set_length tokens (c.lib.result.0 - 1) c.post.new.token ∙ c.requires.mail.0, fits_set c.args.self.now.queues.items tokens (c.lib.result.0 - 1) t c.post.new.token there c.post.ensures.same c.requires.mail.1)
