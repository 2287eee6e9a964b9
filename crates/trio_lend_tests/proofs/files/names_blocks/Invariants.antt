use Rattle.std.proofs.Common.{ℕ, ◌*◌, ◌^◌, ◌<◌, ◌≤◌, length}
use Rattle.trio_auxfile.specs.Blocks.{block_number, bytes_of}
use Rattle.trio_lend_tests.proofs.files.names_blocks.Given as goal

abbrev pub invariant-loop-i : goal.invariant-loop-i
invariant-loop-i l = record {
  named : l.i ≤ 511 * length l.lease.stands.index;
  narrow : (k : ℕ) → k < l.i → block_number (bytes_of l.lease.stands.index) k < 2 ^ 32;
}
