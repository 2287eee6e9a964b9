use Rattle.std.proofs.Common.{◌≡◌, take}
use Rattle.trio_names.specs.Escaped.{escaped_of}
use Rattle.trio_names.proofs.escape.escaped.Given as goal

abbrev pub invariant-loop-byte : goal.invariant-loop-byte
invariant-loop-byte l = l.text.items ≡ escaped_of (take l.byte-index l.bytes)
