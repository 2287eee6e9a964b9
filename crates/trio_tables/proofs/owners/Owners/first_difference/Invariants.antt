use Rattle.std.proofs.Common.{ℕ, ◌<◌}
use Rattle.trio_tables.specs.Stored.{HasOwner}
use Rattle.trio_tables.proofs.owners.Owners.first_difference.Given as goal

abbrev pub invariant-loop-i : goal.invariant-loop-i
invariant-loop-i l = (k : ℕ) → k < l.i → HasOwner l.self l.at l.page k
