use Rattle.trio_script.proofs.Words.{arith, sym}
use borrow.Author.Tests.{ltb-true, ltb-false}
use Rattle.trio_script.proofs.Forms.{peek_too_few, peek_too_many}
use Rattle.trio_script.proofs.line.read_peek.Goals as goal
use Rattle.trio_script.proofs.line.read_peek.Goals.{in_default-via-then-words-lt4, in_default-via-else-words-lt4+else-words-lt5+else-words-lt6}

pub returns-in_default : goal.returns-in_default
returns-in_default c = elim c.in_default.branch [
  | in_default-via-then-words-lt4 w ↦ sym (peek_too_few _ c.args.words.now (omega (arith, ltb-true)))
  | in_default-via-else-words-lt4+else-words-lt5+else-words-lt6 w ↦ sym (peek_too_many _ c.args.words.now (omega (arith, ltb-false)))
]
