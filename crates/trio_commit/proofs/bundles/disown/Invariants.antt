use Rattle.trio_commit.proofs.Words.{◌≡◌, lent_sheets, sheet_numbers, take, with_all}
use Rattle.trio_commit.proofs.bundles.disown.Given as goal

abbrev pub invariant-loop-lent : goal.invariant-loop-lent
invariant-loop-lent l = l.owners ≡ with_all 0 (take l.lent-index (sheet_numbers (lent_sheets l.pages))) l.fn.owners
