use Rattle.trio_judge_tests.proofs.Words.{◌≡◌, file_fits, list_all, take, true}
use Rattle.trio_judge_tests.proofs.whole.bundle_fits.Given as goal

abbrev pub invariant-loop-file : goal.invariant-loop-file
invariant-loop-file l = list_all (file_fits l.count) (take l.file-index l.file-items) ≡ true
