use Rattle.trio_pool.proofs.Words.{[], arith, common_steps, rules, ◌++◌, ◌∷◌, ◌≡◌}
use Rattle.trio_pool.proofs.MailFit.{fits_more}
use Rattle.trio_pool.proofs.mail.Mails.set_up.Goals as goal

pub loop-k-preserved : goal.loop-k-preserved
loop-k-preserved g c =
    let i = c.loop-k.invariant in let q = c.in_ok-queue.queue in let t = c.in_ok-queue.token in
    let queues : c.push_reserved.new.self.items ≡ c.loop-k.queues.items ++ q ∷ [] = search rules in
    let tokens : c.push_reserved-in-loop-k.new.self.items ≡ c.loop-k.tokens.items ++ t ∷ [] = search rules in (
      grind (arith, common_steps),
      grind (arith, common_steps),
      grind (arith, common_steps),
      grind (arith, common_steps),
      fits_more c.loop-k.queues.items c.push_reserved.new.self.items c.loop-k.tokens.items c.push_reserved-in-loop-k.new.self.items c.loop-k.k q t queues tokens i.0 i.1 (search rules) (search rules) i.4,
    )
