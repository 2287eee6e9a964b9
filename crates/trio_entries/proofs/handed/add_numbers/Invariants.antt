use Rattle.trio_entries.proofs.Words.{◌≡◌, InoParts, map, take, vec_capacity}
use Rattle.trio_entries.proofs.handed.add_numbers.Given as goal

abbrev pub invariant-loop-ino : goal.invariant-loop-ino
invariant-loop-ino l =
    (l.numbers.items ≡ map (λ (n : InoParts). n.no) (take l.ino-index l.inodes)) × (vec_capacity l.numbers ≡ vec_capacity l.fn.numbers)
