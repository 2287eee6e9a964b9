use Rattle.trio_runner.proofs.Words.{◌≡◌, tabulated, untold}
use Rattle.trio_runner.proofs.rounds.none_told.Given as goal

abbrev pub invariant-loop-n : goal.invariant-loop-n
invariant-loop-n l = l.tolds.items ≡ tabulated (λ k. untold) l._n
