use Rattle.trio_pool.proofs.Words.{[], arith, common_steps, length, refl, rules, slice_get_read, sym, ◌++◌, ◌<◌, ◌∙◌, ◌∷◌, ◌≡◌}
use Rattle.trio_pool.proofs.MailFit.{fits_set, fits_copy, set_length}
use Rattle.trio_pool.proofs.mail.Mails.another.Goals as goal

pub loop-k-preserved : goal.loop-k-preserved
loop-k-preserved g c =
    let i = c.loop-k.invariant in let t = c.index_mut.result.now in let q = c.index.result.now in let e = c.another.ensures in let k = c.loop-k.k in
    let queues = c.args.self.now.queues.items in
    let within : k < length queues = search rules in
    let there = slice_get_read c.loop-k.mail.tokens.items (length queues) k t (sym i.0.0) within c.index_mut.ensures.value in
    let queue = slice_get_read queues (length queues) k q refl within c.index.ensures in
    let tokens : c.push_reserved.new.self.items ≡ c.loop-k.tokens.items ++ c.another.result ∷ [] = search rules in (
      (set_length c.loop-k.mail.tokens.items k c.another.new.token ∙ i.0.0, fits_set queues c.loop-k.mail.tokens.items k t c.another.new.token there e.same i.0.1),
      grind (arith, common_steps),
      grind (arith, common_steps),
      fits_copy queues c.loop-k.tokens.items c.push_reserved.new.self.items k q c.another.result tokens i.1 queue e.new.0 (e.new.1 ∙ (i.0.1 k t there).3) i.3,
    )
