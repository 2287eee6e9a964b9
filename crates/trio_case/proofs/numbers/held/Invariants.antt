use Rattle.trio_case.proofs.Words.{◌≡◌, HasNumberPlaces, length, map, take, vec_len}
use Rattle.trio_case.proofs.numbers.held.Given as goal

abbrev pub invariant-loop-hold : goal.invariant-loop-hold
invariant-loop-hold l = record {
  numbers : l.room.numbers.items ≡ map (λ h. h.ino) (take l.hold-index l.holds);
  len : vec_len l.room.numbers ≡ l.hold-index;
  places : HasNumberPlaces (length l.holds) l.room;
}
