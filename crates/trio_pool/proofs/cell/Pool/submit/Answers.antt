use Rattle.trio_pool.proofs.Words.{◌∙◌}
use Rattle.trio_pool.proofs.Passing.{after_put, count_put, held_jobs}
use Rattle.trio_pool.proofs.cell.Pool.submit.Goals as goal

pub invariant_of-pass-clause-alone : goal.invariant_of-pass-clause-alone
invariant_of-pass-clause-alone g c = (after_put c.args.pass.now.token.me.0.client c.put.new.token.me.0.client _ c.args.pass.now.alone c.in-Ok.ensures.put).0

pub invariant_of-pass-clause-numbered : goal.invariant_of-pass-clause-numbered
invariant_of-pass-clause-numbered g c = (after_put c.args.pass.now.token.me.0.client c.put.new.token.me.0.client _ c.args.pass.now.alone c.in-Ok.ensures.put).1 ∙ c.args.pass.now.numbered

pub invariant_of-pass-clause-counted : goal.invariant_of-pass-clause-counted
invariant_of-pass-clause-counted g c = count_put c.args.pass.now.token.me.0.client c.put.new.token.me.0.client _ _ _ c.args.pass.now.alone c.in-Ok.ensures.put c.args.pass.now.counted

pub returns-in-Case-clause-full : goal.returns-in-Case-clause-full
returns-in-Case-clause-full g c = held_jobs c.args.self.now c.args.pass.now _ c.requires.pass c.in-Err.ensures.put.2
