use Rattle.trio_entries.proofs.Words.{◌++◌, ◌≡◌, None, replicate, vec_capacity}
use Rattle.trio_entries.proofs.finder.add_unplaced.Given as goal

abbrev pub invariant-loop : goal.invariant-loop
invariant-loop l =
    (l.judged.items ≡ l.fn.judged.items ++ replicate l.counter None) × (vec_capacity l.judged ≡ vec_capacity l.fn.judged)
