use Rattle.trio_survey.proofs.Words.{◌++◌, ◌≡◌, take}
use Rattle.trio_survey.proofs.chain.add_numbers.Given as goal

abbrev pub invariant-loop-i : goal.invariant-loop-i
invariant-loop-i l = l.blocks.items ≡ l.initial.blocks.items ++ take l.i l.index.numbers
