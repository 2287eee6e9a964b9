use Rattle.trio_judge_tests.proofs.Words.{◌<◌, row_in, ℕ}
use Rattle.trio_judge_tests.specs.Leaves.{HasNoFile}
use Rattle.trio_judge_tests.proofs.leaves.data_files_are_leaves.Given as goal

abbrev pub invariant-loop-ino : goal.invariant-loop-ino
invariant-loop-ino l = (n : ℕ) → n < l.ino → HasNoFile l.listing.listing (row_in l.rows n)
