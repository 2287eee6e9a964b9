use Rattle.trio_image.proofs.Words.{◌≡◌, ◌≤◌, owned_count, take}
use Rattle.trio_image.proofs.counts.owned.Given as goal

abbrev pub invariant-loop-no : goal.invariant-loop-no
invariant-loop-no l = record { counted : l.count ≡ owned_count (take l.no l.owners); below : l.count ≤ l.no }
