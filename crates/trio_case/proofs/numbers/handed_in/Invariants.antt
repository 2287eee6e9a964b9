use Rattle.trio_case.proofs.Words.{◌≡◌, HasNumberPlaces, length, map, take, vec_len}
use Rattle.trio_case.proofs.numbers.handed_in.Given as goal

abbrev pub invariant-loop-ino : goal.invariant-loop-ino
invariant-loop-ino l = record {
  numbers : l.room.numbers.items ≡ map (λ n. n.no) (take l.ino-index l.inodes);
  len : vec_len l.room.numbers ≡ l.ino-index;
  places : HasNumberPlaces (length l.inodes) l.room;
}
