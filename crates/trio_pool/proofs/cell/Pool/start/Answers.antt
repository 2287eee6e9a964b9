use Rattle.trio_pool.proofs.Words.{IsNew, [], arith, common_steps, rules, subst, ◌++◌, ◌∷◌, ◌≡◌}
use Rattle.trio_pool.proofs.Ends.{new_more}
use Rattle.trio_pool.proofs.cell.Pool.start.Goals as goal

pub loop-number-preserved : goal.loop-number-preserved
loop-number-preserved g c =
    let i = c.loop-number.invariant in let d = c.deal_pass.ensures in let pass = c.deal_pass.result in
    let items : c.push_reserved.new.self.items ≡ c.loop-number.all.items ++ pass ∷ [] = search rules in
    (d.queue, d.dealer, grind (arith, common_steps), grind (arith, common_steps), new_more c.in_ok-pool.pool c.loop-number.all.items c.push_reserved.new.self.items c.loop-number.number pass items i.2 i.4 d.pass)

pub returns-clause-passes : goal.returns-clause-passes
returns-clause-passes g c =
    let i = c.loop-number.invariant in let d = c.last_pass.ensures.pass in let pass = c.last_pass.result in
    let items : c.push_reserved-2.new.self.items ≡ c.loop-number.all.items ++ pass ∷ [] = search rules in
    let count : c.in_ok-pool.pool.passes ≡ c.args.passes = search rules in
    let last : d.0 ≡ c.loop-number.number = omega (arith, d.1, count, c.loop-number-test.false) in
    (grind (arith, common_steps), new_more c.in_ok-pool.pool c.loop-number.all.items c.push_reserved-2.new.self.items c.loop-number.number pass items i.2 i.4 (subst (λ k. IsNew c.in_ok-pool.pool k pass) last d.2))
