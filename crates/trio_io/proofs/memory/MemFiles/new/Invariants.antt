use Rattle.std.proofs.Common.{◌≡◌, ℕ, None, vec_len}
use Rattle.trio_io.specs.Kept.{bytes_at, content_at}
use Rattle.trio_io.proofs.memory.MemFiles.new.Given as goal

abbrev pub invariant-loop : goal.invariant-loop
invariant-loop l = record {
  each : vec_len l.contents ≡ l.counter;
  absent : (k : ℕ) → content_at l.contents.items k ≡ None;
  empty : (k : ℕ) → bytes_at l.contents.items k ≡ None;
}
