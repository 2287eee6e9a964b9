use Rattle.trio_script.proofs.Words.{◌||◌, ◌≡◌, ◌≤◌, None, count_of, is_some, length, libs_and, libs_from, lines_of, list_any, says_library}
use Rattle.trio_script.specs.Script.{first_bad}
use Rattle.trio_script.specs.inner.Taken.{kind_of}
use Rattle.trio_script.proofs.read_script.Given as goal

abbrev pub invariant-loop-rest : goal.invariant-loop-rest
invariant-loop-rest l = record {
  counted : l.number ≤ 16385;
  few : count_of l.begun ≤ 16;
  first : first_bad 1 0 None (lines_of l.bytes) ≡ first_bad l.number (count_of l.begun) (kind_of l.begun) (lines_of l.rest);
  named : list_any says_library (lines_of l.bytes) ≡ (is_some l.begun || list_any says_library (lines_of l.rest));
  said : libs_from 1 (lines_of l.bytes) ≡ libs_and l.begun l.number (lines_of l.rest);
}

abbrev pub decreases-loop-rest : goal.decreases-loop-rest
decreases-loop-rest l = length l.rest
