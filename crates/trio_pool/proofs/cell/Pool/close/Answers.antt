use Rattle.trio_pool.proofs.Words.{[], arith, common_steps, rules, ◌∙◌}
use Rattle.trio_pool.proofs.Ends.{all_there, closing_more, closing_room, closed}
use Rattle.trio_pool.proofs.cell.Pool.close.Goals as goal

pub count-requires-clause-all : goal.count-requires-clause-all
count-requires-clause-all g c = all_there c.args.self.passes [] _ c.args.passes.items _ c.closer-token.ensures.view c.gather-token.ensures.accounts c.requires.every

pub empty-requires-clause-all : goal.empty-requires-clause-all
empty-requires-clause-all g c = let k = c.loop-job.invariant.2 in all_there c.args.self.passes k.left k.accounts c.args.passes.items _ k.view_is k.each c.requires.every

pub keep-requires : goal.keep-requires
keep-requires g c =
    let i = c.loop-job.invariant in let low = closing_room _ _ _ _ _ _ _ i.2 c.in-Some.ensures.took in let wide = i.1 in
    record { room = omega arith }

pub loop-job-preserved : goal.loop-job-preserved
loop-job-preserved g c =
    let i = c.loop-job.invariant in let q = c.empty.ensures.queue in let k = c.keep.ensures in
    let more = closing_more c.args.self.passes c.args.self.queue.cap c.args.passes.items _ _ c.in-Some.job c.loop-job.cases.items c.keep.new.cases.items i.2 c.in-Some.ensures.took k.cases in
    ((q.0 ∙ i.0.0, q.2 ∙ i.0.1), grind (arith, common_steps), more)

pub returns-clause-line : goal.returns-clause-line
returns-clause-line g c = closed c.args.self.passes c.args.self.queue.cap c.args.passes.items _ c.loop-job.cases.items c.loop-job.invariant.2 (search rules)
