use Rattle.trio_script.proofs.Words.{◌≡◌, length, text_of}
use Rattle.trio_script.proofs.Numbers.{behind}
use Rattle.trio_script.proofs.text.text_bytes.Given as goal

abbrev pub invariant-loop-rest : goal.invariant-loop-rest
invariant-loop-rest l = text_of l.word ≡ behind l.bytes.items (text_of l.rest)

abbrev pub decreases-loop-rest : goal.decreases-loop-rest
decreases-loop-rest l = length l.rest
