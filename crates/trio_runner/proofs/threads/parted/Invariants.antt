use Rattle.trio_runner.proofs.Words.{◌≡◌, LibRun, Some, map}
use Rattle.trio_runner.proofs.threads.parted.Given as goal

abbrev pub invariant-loop-run : goal.invariant-loop-run
invariant-loop-run l = record {
  seats : l.seats.items ≡ map (λ (run : LibRun). run.seat) l.yielded;
  tolds : map Some l.tolds.items ≡ map (λ (run : LibRun). run.told) l.yielded;
}
