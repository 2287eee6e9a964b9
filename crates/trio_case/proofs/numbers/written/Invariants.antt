use Rattle.trio_case.proofs.Words.{◌≡◌, HasNumberPlaces, length, map, take, vec_len}
use Rattle.trio_case.proofs.numbers.written.Given as goal

abbrev pub invariant-loop-lease : goal.invariant-loop-lease
invariant-loop-lease l = record {
  numbers : l.room.numbers.items ≡ map (λ f. f.stands.ino) (take l.lease-index l.writes);
  len : vec_len l.room.numbers ≡ l.lease-index;
  places : HasNumberPlaces (length l.writes) l.room;
}
