use Rattle.trio_judge_tests.proofs.Words.{◌≡◌, lent_sheet, list_all, map, sheet_fits, take, true}
use Rattle.trio_judge_tests.proofs.whole.index_fits.Given as goal

abbrev pub invariant-loop-at : goal.invariant-loop-at
invariant-loop-at l = list_all (sheet_fits l.count) (take l.at (map lent_sheet l.file.stands.index)) ≡ true
