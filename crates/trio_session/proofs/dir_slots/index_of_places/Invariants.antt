use Rattle.trio_session.proofs.Words.{◌≡◌, chain_at, every_number, map, page_in, slots_of, take}
use Rattle.trio_session.proofs.dir_slots.index_of_places.Given as goal

-- the index has the slots of the first blocks
abbrev pub invariant-loop-k : goal.invariant-loop-k
invariant-loop-k l = record {
  inodes : l.dir.inodes ≡ every_number;
  slots : l.dir.slots ≡ slots_of every_number (take l.k (map (page_in l.stock) (chain_at l.stock l.file l.laid).blocks));
}
