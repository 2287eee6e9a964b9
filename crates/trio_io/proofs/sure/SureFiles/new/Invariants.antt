use Rattle.std.proofs.Common.{◌≡◌, ◌<◌, ℕ, [], Some, vec_len}
use Rattle.trio_io.specs.Kept.{content_at}
use Rattle.trio_io.proofs.sure.SureFiles.new.Given as goal

abbrev pub invariant-loop : goal.invariant-loop
invariant-loop l =
    record { each : vec_len l.contents ≡ l.counter; empty : (k : ℕ) → k < l.counter → content_at l.contents.items k ≡ Some [] }
