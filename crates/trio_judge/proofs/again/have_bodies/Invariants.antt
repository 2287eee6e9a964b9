use Rattle.trio_judge.proofs.Words.{◌≡◌, entries_kept, flat_map, has_body, list_all, take, true}
use Rattle.trio_judge.proofs.again.have_bodies.Given as goal

abbrev pub invariant-loop-block : goal.invariant-loop-block
invariant-loop-block l = list_all (has_body l.case.range) (flat_map (entries_kept l.room.kept) (take l.block-index l.room.blocks.items)) ≡ true
