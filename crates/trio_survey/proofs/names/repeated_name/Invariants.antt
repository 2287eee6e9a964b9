use Rattle.trio_survey.proofs.Words.{◌≡◌, MarksNames, [], drop, entries_kept, flat_map, repeated_name, take}
use Rattle.trio_survey.proofs.names.repeated_name.Given as goal

abbrev pub invariant-loop-block : goal.invariant-loop-block
invariant-loop-block l = record {
  marks : MarksNames l.kept.names.names.items l.named (flat_map (entries_kept l.range l.kept) (take l.block-index l.blocks));
  rest : repeated_name (flat_map (entries_kept l.range l.kept) (take l.block-index l.blocks)) (flat_map (entries_kept l.range l.kept) (drop l.block-index l.blocks)) ≡ repeated_name [] (flat_map (entries_kept l.range l.kept) l.blocks);
}
