use Rattle.trio_judge_tests.proofs.Words.{◌≡◌, ◌≤◌, is_child, take}
use Rattle.std.specs.List.{count_by}
use Rattle.trio_judge_tests.proofs.checked.child_count.Given as goal

abbrev pub invariant-loop-ino : goal.invariant-loop-ino
invariant-loop-ino l = (l.count ≡ count_by (is_child l.bundle) (take l.ino l.rows)) × (l.count ≤ l.ino)
