use Rattle.trio_entries.proofs.Words.{◌≡◌, HoldParts, map, take, vec_capacity}
use Rattle.trio_entries.proofs.handed.add_holds.Given as goal

abbrev pub invariant-loop-hold : goal.invariant-loop-hold
invariant-loop-hold l =
    (l.numbers.items ≡ map (λ (h : HoldParts). h.ino) (take l.hold-index l.holds)) × (vec_capacity l.numbers ≡ vec_capacity l.fn.numbers)
