use Rattle.trio_pool.proofs.Words.{[], arith, common_steps, rules, ◌++◌, ◌∷◌, ◌≡◌}
use Rattle.trio_pool.proofs.MailFit.{pass_more}
use Rattle.trio_pool.proofs.mail.Mails.start.Goals as goal

pub loop-k-preserved : goal.loop-k-preserved
loop-k-preserved g c =
    let i = c.loop-k.invariant in let p = c.in_ok-pass.pass in
    let items : c.push_reserved.new.self.items ≡ c.loop-k.all.items ++ p ∷ [] = search rules in
    (search rules, grind (arith, common_steps), grind (arith, common_steps), pass_more c.in_ok-mails.mails c.loop-k.all.items c.push_reserved.new.self.items p items i.3 (search rules))

pub returns-clause-passes : goal.returns-clause-passes
returns-clause-passes g c =
    let i = c.loop-k.invariant in
    let items : c.push_reserved-2.new.self.items ≡ c.loop-k.all.items ++ c.loop-k.first ∷ [] = search rules in
    (grind (arith, common_steps), pass_more c.in_ok-mails.mails c.loop-k.all.items c.push_reserved-2.new.self.items c.loop-k.first items i.3 i.0)
