use Rattle.trio_app.proofs.Words.{◌≡◌, calls_told, take}
use Rattle.std.proofs.Common.{map}
use Rattle.trio_app.proofs.generating.calls_told.Given as goal

abbrev pub invariant-loop-at : goal.invariant-loop-at
invariant-loop-at l = map (λ a. a.now) l.answers.items ≡ calls_told (take l.at l.libs) (take l.at l.tolds)
