use Rattle.trio_ctl.proofs.Words.{◌≡◌, None, replicate}
use Rattle.trio_ctl.proofs.start.empty_places.Given as goal

abbrev pub invariant-loop-i : goal.invariant-loop-i
invariant-loop-i g l = l.places.items ≡ replicate l._i None
