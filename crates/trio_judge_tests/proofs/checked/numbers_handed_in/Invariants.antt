use Rattle.trio_judge_tests.proofs.Words.{◌≡◌, map, take}
use Rattle.trio_judge_tests.proofs.checked.numbers_handed_in.Given as goal

abbrev pub invariant-loop-ino : goal.invariant-loop-ino
invariant-loop-ino l = l.numbers.items ≡ map (λ n. n.no) (take l.ino-index l.inodes)
