use Rattle.std.proofs.Common.{◌≡◌, ◌+◌, ◌≤◌, length}
use Rattle.trio_image_tests.proofs.nameset.count_placed.Given as goal

abbrev pub invariant-loop-place : goal.invariant-loop-place
invariant-loop-place l = record {
  names : length l.set.names ≤ length l.fn.set.names + l.place;
  room : l.set.room ≡ l.fn.set.room;
}
