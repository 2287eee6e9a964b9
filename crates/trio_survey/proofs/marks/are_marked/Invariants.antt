use Rattle.trio_survey.proofs.Words.{◌≡◌, are_marked, drop}
use Rattle.trio_survey.proofs.marks.are_marked.Given as goal

abbrev pub invariant-loop-listed : goal.invariant-loop-listed
invariant-loop-listed l = record {
  all : are_marked l.marks.items (drop l.listed-index l.entries) ≡ are_marked l.marks.items l.entries;
}
