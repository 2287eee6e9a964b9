use Rattle.trio_pool.proofs.Words.{rules}
use Rattle.trio_pool.proofs.Passing.{after_take, held_jobs}
use Rattle.trio_pool.proofs.cell.Pool.take.Goals as goal

pub returns-in-None-clause-took : goal.returns-in-None-clause-took
returns-in-None-clause-took g c = let e = c.in-None.ensures.took in (search rules, held_jobs c.args.self.now c.args.pass.now _ c.requires.pass e.1)

pub returns-in-Case-clause-took : goal.returns-in-Case-clause-took
returns-in-Case-clause-took g c =
    let t = (after_take c.args.pass.now.token.me.0.client c.take.new.token.me.0.client _ c.args.pass.now.alone c.in-Some.ensures.took).2 in
    (c.in-Some.field-0.by, c.in-Case.field-0, search rules)

pub returns-in-Stop-clause-took : goal.returns-in-Stop-clause-took
returns-in-Stop-clause-took g c =
    let t = (after_take c.args.pass.now.token.me.0.client c.take.new.token.me.0.client _ c.args.pass.now.alone c.in-Some.ensures.took).2 in
    (c.in-Some.field-0.by, search rules)
