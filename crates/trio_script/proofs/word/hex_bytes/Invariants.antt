use Rattle.trio_script.proofs.Words.{◌*◌, ◌++◌, ◌≡◌, drop, hex_bytes}
use Rattle.trio_script.proofs.word.hex_bytes.Given as goal

abbrev pub invariant-loop-i : goal.invariant-loop-i
invariant-loop-i l = l.bytes.items ++ hex_bytes (drop (2 * l.i) l.digits) ≡ hex_bytes l.digits
