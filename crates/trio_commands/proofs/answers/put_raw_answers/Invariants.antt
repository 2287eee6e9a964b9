use Rattle.std.proofs.Common.{◌≡◌, ◌++◌, take}
use Rattle.trio_script.specs.declared.Lines.TheVariants as lines
use Rattle.trio_commands.specs.Report.{answers_text, numbers_of}
use Rattle.trio_commands.proofs.answers.put_raw_answers.Given as goal

abbrev pub invariant-loop-at : goal.invariant-loop-at
invariant-loop-at l = l.text.items ≡ l.fn.text.items ++ answers_text (take l.at (numbers_of (lines.Raw l.lines))) (take l.at l.answers)
