use Rattle.trio_judge_tests.proofs.Words.{◌≡◌, [], take}
use Rattle.std.proofs.Common.{drop}
use Rattle.trio_lists.specs.Lists.{are_new}
use Rattle.trio_judge_tests.proofs.checked.are_once.Given as goal

-- what is left is new after what came before exactly where all stand once
abbrev pub invariant-loop-i : goal.invariant-loop-i
invariant-loop-i l = are_new (take l.i l.numbers) (drop l.i l.numbers) ≡ are_new [] l.numbers
