use Rattle.std.proofs.Common.{ℕ, ◌<◌}
use Rattle.trio_tables.specs.Stored.{HasRow}
use Rattle.trio_tables.proofs.shadow.Shadow.first_difference.Given as goal

abbrev pub invariant-loop-i : goal.invariant-loop-i
invariant-loop-i l = (k : ℕ) → k < l.i → HasRow l.self l.at l.page k
