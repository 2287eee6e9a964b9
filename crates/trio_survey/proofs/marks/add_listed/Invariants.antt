use Rattle.trio_survey.proofs.Words.{◌++◌, ◌≡◌, Grows, List, Listed, Met, entry_seen, map, met_seen, pick_of, take, vec_len, ℕ}
use Rattle.trio_survey.proofs.marks.add_listed.Given as goal

abbrev pub invariant-loop-listed : goal.invariant-loop-listed
invariant-loop-listed l = record {
  grows : (names : List (List ℕ)) (old : List Met) (before : List Listed)
      → Grows (pick_of l.picks) l.directory old (map met_seen l.fn.files.items) l.fn.marks.items l.fn.repeated before
      → Grows (pick_of l.picks) l.directory old (map met_seen l.files.items) l.marks.items l.repeated (before ++ map (entry_seen names) (take l.listed-index l.entries));
  len : vec_len l.marks ≡ vec_len l.fn.marks;
}
