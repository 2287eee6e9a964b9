use Rattle.trio_pool.proofs.Words.{IfSome, arith, length, refl, rules, slice_get_read, subst, ◌+◌, ◌-◌, ◌<◌, ◌∙◌, ◌≡◌}
use Rattle.trio_pool.proofs.MailFit.{fits_set, set_length}
use Rattle.trio_pool.proofs.mail.Mails.fetch.Goals as goal

pub returns-clause-mail : goal.returns-clause-mail
returns-clause-mail g c =
    let t = c.index_mut.result.now in let tokens = c.args.mail.now.tokens.items in
    let within : c.args.lib.0 - 1 < length tokens = search rules in
    let there = slice_get_read tokens (length tokens) (c.args.lib.0 - 1) t refl within c.index_mut.ensures.value in
    (set_length tokens (c.args.lib.0 - 1) c.fetch.new.token ∙ c.requires.mail.0, fits_set c.args.self.now.queues.items tokens (c.args.lib.0 - 1) t c.fetch.new.token there c.fetch.ensures.same c.requires.mail.1)

pub returns-clause-library : goal.returns-clause-library
returns-clause-library g c =
    let t = c.index_mut.result.now in
    let within : c.args.lib.0 - 1 < length c.args.mail.now.tokens.items = search rules in
    let there = slice_get_read c.args.mail.now.tokens.items (length c.args.mail.now.tokens.items) (c.args.lib.0 - 1) t refl within c.index_mut.ensures.value in
    let low = c.requires.library.0 in
    let whole : c.args.lib.0 - 1 + 1 ≡ c.args.lib.0 = omega (arith, low) in
    subst (λ n. IfSome c.fetch.result (λ x. g.J.OfLibrary.library x ≡ n)) ((c.requires.mail.1 (c.args.lib.0 - 1) t there).3 ∙ whole) c.fetch.ensures.library
