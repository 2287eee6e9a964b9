use Rattle.trio_runner.proofs.Words.{◌≡◌, parts_bytes, take}
use Rattle.trio_runner.proofs.copies.spelled.Given as goal

abbrev pub invariant-loop-name : goal.invariant-loop-name
invariant-loop-name l = l.bytes.items ≡ parts_bytes (take l.name-index l.names)
