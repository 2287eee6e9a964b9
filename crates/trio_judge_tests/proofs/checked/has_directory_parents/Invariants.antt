use Rattle.trio_judge_tests.proofs.Words.{◌<◌, ◌≡◌, Row, Some, row_in, true, ℕ}
use Rattle.trio_rights.specs.ByKind.{is_directory}
use Rattle.trio_judge_tests.proofs.checked.has_directory_parents.Given as goal

abbrev pub invariant-loop-ino : goal.invariant-loop-ino
invariant-loop-ino l = (n : ℕ) → n < l.ino → (r p : Row) → row_in l.rows n ≡ Some r → row_in l.rows r.parent ≡ Some p → is_directory p.kind ≡ true
