use Rattle.trio_case.proofs.Words.{◌<◌, ◌≡◌, Bundled, Tells, bundle_in, copied_row, row_in, row_kept, ℕ}
use Rattle.trio_case.proofs.numbers.is_copied.Given as goal

-- the rows so far
abbrev pub invariant-loop-ino : goal.invariant-loop-ino
invariant-loop-ino l =
    (b : Bundled) → Tells l.numbers b → (n : ℕ) → n < l.ino → row_kept l.numbers l.copied n ≡ copied_row (bundle_in b) n (row_in l.rows n)
