use Rattle.trio_case.proofs.Words.{◌<◌, ◌^◌, rules}
use Rattle.trio_case.proofs.IndexOnce.{beq_differ, index_once}
use Rattle.trio_case.proofs.chain.is_for.Goals as goal

pub returns-then-index-used-clause-other : goal.returns-then-index-used-clause-other
returns-then-index-used-clause-other c = λ f numbers bytes h.
    let small : c.args.range.end < 2 ^ 32 = search rules in
    index_once c.args.index.now.used c.args.used c.args.index.now.last c.args.last c.args.range bytes _ c.requires.first small h.few c.requires.many h.spells (λ e. beq_differ c.args.index.now.last c.args.last f e.1)

pub returns-else-index-used-clause-other : goal.returns-else-index-used-clause-other
returns-else-index-used-clause-other c = λ f numbers bytes h.
    let small : c.args.range.end < 2 ^ 32 = search rules in
    index_once c.args.index.now.used c.args.used c.args.index.now.last c.args.last c.args.range bytes _ c.requires.first small h.few c.requires.many h.spells (λ e. c.if-index-used.false e.0)
