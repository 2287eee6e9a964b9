use Rattle.trio_auxdir.proofs.Words.{◌-◌, ◌≤◌, gap, length}
use Rattle.trio_auxdir.proofs.index.first_from.Given as goal

abbrev pub invariant-loop-at : goal.invariant-loop-at
invariant-loop-at l = l.at ≤ gap l.slots

abbrev pub decreases-loop-at : goal.decreases-loop-at
decreases-loop-at l = length l.slots - l.at
