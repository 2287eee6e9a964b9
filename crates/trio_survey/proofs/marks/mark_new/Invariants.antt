use Rattle.trio_survey.proofs.Words.{◌++◌, ◌≡◌, FirstRepeat, List, MarksJust, take, vec_len, ℕ}
use Rattle.trio_survey.proofs.marks.mark_new.Given as goal

abbrev pub invariant-loop-n : goal.invariant-loop-n
invariant-loop-n l = record {
  marked : (before : List ℕ) → MarksJust l.fn.marks.items before → MarksJust l.marks.items (before ++ take l.n-index l.these);
  first : (before : List ℕ) → MarksJust l.fn.marks.items before → FirstRepeat before (take l.n-index l.these) l.repeated;
  len : vec_len l.marks ≡ vec_len l.fn.marks;
}
