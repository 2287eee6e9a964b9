use Rattle.std.proofs.Common.{◌≡◌, ◌++◌, take}
use Rattle.trio_report.specs.Answers.{hex_text}
use Rattle.trio_report.proofs.answer.put_hex.Given as goal

abbrev pub invariant-loop-byte : goal.invariant-loop-byte
invariant-loop-byte l = l.out.items ≡ l.fn.out.items ++ hex_text (take l.byte-index l.bytes)
