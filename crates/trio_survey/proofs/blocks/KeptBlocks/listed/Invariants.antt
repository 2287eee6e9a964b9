use Rattle.trio_survey.proofs.Words.{◌≡◌, entries_kept, flat_map, listed_seen, map, take}
use Rattle.trio_survey.proofs.blocks.KeptBlocks.listed.Given as goal

abbrev pub invariant-loop-block : goal.invariant-loop-block
invariant-loop-block l =
    map listed_seen l.listed.items ≡ flat_map (entries_kept l.range l.self) (take l.block-index l.blocks)
