use Rattle.std.proofs.Common.{arith, ap, sym, ◌∙◌, ◌++◌}
use Rattle.trio_script.specs.declared.ScriptLine.{ScriptLine}
use Rattle.trio_script.specs.declared.honest.HonestLine.{HonestLine}
use Rattle.trio_report.specs.Answers.{answer_line}
use Rattle.trio_commands.proofs.Told.{answers_done, answers_put}
use Rattle.trio_commands.proofs.answers.put_honest_answers.Goals as goal

pub loop-at-preserved : goal.loop-at-preserved
loop-at-preserved c =
    let put = c.in_ok-put_answer.ensures ∙ ap (λ (l : ScriptLine HonestLine). c.loop-at.text.items ++ answer_line l.number c.index-answers-at.result) (sym c.index-lines-at.is) in
    answers_put (λ (l : ScriptLine HonestLine). l.number) c.args.lines.now c.args.answers.now c.loop-at.at c.index-lines-at.result c.index-answers-at.result c.args.text.now.items c.loop-at.text.items c.put_answer.new.out.items
    (omega arith) (omega arith) c.index-lines-at.is c.index-answers-at.is c.loop-at.invariant put

pub returns : goal.returns
returns c =
    c.loop-at.invariant
    ∙ ap (λ bytes. c.args.text.now.items ++ bytes) (answers_done (λ (l : ScriptLine HonestLine). l.number) c.args.lines.now c.args.answers.now c.loop-at.at (omega arith))
