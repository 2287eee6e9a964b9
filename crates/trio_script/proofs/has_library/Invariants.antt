use Rattle.trio_script.proofs.Words.{◌≡◌, length, lines_of, list_any, says_library}
use Rattle.trio_script.proofs.has_library.Given as goal

abbrev pub invariant-loop-rest : goal.invariant-loop-rest
invariant-loop-rest l = list_any says_library (lines_of l.bytes) ≡ list_any says_library (lines_of l.rest)

abbrev pub decreases-loop-rest : goal.decreases-loop-rest
decreases-loop-rest l = length l.rest
