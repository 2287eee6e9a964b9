use Rattle.trio_app.proofs.Words.{◌∙◌, arith}
use Rattle.trio_app.proofs.Gens.{calls_all, calls_put}
use Rattle.trio_app.proofs.generating.calls_told.Goals as goal

pub loop-at-preserved : goal.loop-at-preserved
loop-at-preserved c =
    let more = c.in_ok-push_call_answers.ensures in
    calls_put c.args.libs.now c.args.tolds.now c.loop-at.at c.index-libs-at.result c.index-tolds-at.result _ _
    (omega arith) (omega arith) c.index-libs-at.is c.index-tolds-at.is c.loop-at.invariant (rw c.answers.ensures at more)

pub returns : goal.returns
returns c = c.loop-at.invariant ∙ calls_all c.args.libs.now c.args.tolds.now c.loop-at.at (omega arith)
