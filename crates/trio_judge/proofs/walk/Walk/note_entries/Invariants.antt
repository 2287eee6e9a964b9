use Rattle.trio_judge.proofs.Words.{Noted, case_in, entries_kept, flat_map, map, met_in, plain, take}
use Rattle.trio_judge.proofs.walk.Walk.note_entries.Given as goal

abbrev pub invariant-loop-block : goal.invariant-loop-block
invariant-loop-block l = Noted (case_in l.case) (map (met_in plain l.directory) (flat_map (entries_kept l.room.kept) (take l.block-index l.room.blocks.items))) l.fn.self l.self
