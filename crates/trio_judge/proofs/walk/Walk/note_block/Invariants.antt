use Rattle.trio_judge.proofs.Words.{Noted, case_in, listed_met, map, take}
use Rattle.trio_judge.proofs.walk.Walk.note_block.Given as goal

abbrev pub invariant-loop-listed : goal.invariant-loop-listed
invariant-loop-listed l = Noted (case_in l.case) (map (listed_met l.directory) (take l.listed-index l.entries)) l.fn.self l.self
