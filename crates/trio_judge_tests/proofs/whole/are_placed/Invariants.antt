use Rattle.trio_judge_tests.proofs.Words.{◌<◌, ◌≡◌, ◌≢◌, IsTrue, Row, Some, is_core, row_in, ℕ}
use Rattle.trio_judge_tests.proofs.whole.are_placed.Given as goal

abbrev pub invariant-loop-ino : goal.invariant-loop-ino
invariant-loop-ino l = (n : ℕ) → n < l.ino → (r : Row) → row_in l.rows n ≡ Some r → n ≢ 1 → (r.slot < 16) × IsTrue (is_core l.range r.page)
