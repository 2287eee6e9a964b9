use Rattle.trio_gen.proofs.Words.{◌∙◌, HonestLine, ScriptLine, ap, arith, is_call, sym}
use Rattle.trio_gen.proofs.Summaries.{answers_end, answers_put}
use Rattle.trio_gen.proofs.summary.push_honest.Goals as goal

pub loop-at-preserved : goal.loop-at-preserved
loop-at-preserved c =
    answers_put c.args.lines.now c.args.answers.now c.loop-at.at c.index-lines-at.result c.index-answers-at.result c.is_call.result _ _ _
    (omega arith) (omega arith) c.index-lines-at.is c.index-answers-at.is
    (c.is_call.ensures ∙ ap (λ (l : ScriptLine HonestLine). is_call l.line) (sym c.index-lines-at.is)) c.loop-at.invariant c.in_ok-push_where.ensures

pub returns : goal.returns
returns c = answers_end c.args.lines.now c.args.answers.now c.loop-at.at _ _ (omega arith) c.loop-at.invariant
