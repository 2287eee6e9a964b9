use Rattle.trio_case.proofs.Words.{◌≡◌, MarksNames, [], drop, entries_kept, flat_map, length, repeated_name, take}
use Rattle.trio_case.proofs.names.repeated_name.Given as goal

abbrev pub invariant-loop-block : goal.invariant-loop-block
invariant-loop-block l = record {
  room : length l.named ≡ length l.fn.named;
  marks : MarksNames l.kept.names.names l.named (flat_map (entries_kept l.kept) (take l.block-index l.blocks));
  rest : repeated_name (flat_map (entries_kept l.kept) (take l.block-index l.blocks)) (flat_map (entries_kept l.kept) (drop l.block-index l.blocks)) ≡ repeated_name [] (flat_map (entries_kept l.kept) l.blocks);
}
