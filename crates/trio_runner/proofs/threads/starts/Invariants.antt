use Rattle.trio_runner.proofs.Words.{◌≡◌}
use Rattle.trio_runner.specs.inner.Threads.{seats_of}
use Rattle.trio_runner.proofs.threads.starts.Given as goal

abbrev pub invariant-loop-seat : goal.invariant-loop-seat
invariant-loop-seat l = seats_of l.starts.items ≡ l.yielded
