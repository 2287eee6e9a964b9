use Rattle.trio_survey.proofs.Words.{◌≡◌, Grows, entries_kept, flat_map, map, met_seen, pick_of, take, vec_len}
use Rattle.trio_survey.proofs.marks.add_children.Given as goal

abbrev pub invariant-loop-block : goal.invariant-loop-block
invariant-loop-block l = record {
  grows : Grows (pick_of l.picks) l.directory (map met_seen l.fn.files.items) (map met_seen l.files.items) l.marks.items l.repeated (flat_map (entries_kept l.range l.kept) (take l.block-index l.blocks));
  len : vec_len l.marks ≡ vec_len l.fn.marks;
}
