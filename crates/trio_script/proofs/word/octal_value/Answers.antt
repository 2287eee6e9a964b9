use Rattle.trio_script.proofs.Words.{arith}
use Rattle.trio_script.proofs.Numerals.{le-pow8}
use Rattle.trio_script.proofs.word.octal_value.Goals as goal

pub overflow_mul-mode : goal.overflow_mul-mode
overflow_mul-mode c = omega (arith, le-pow8 c.loop-digit.digit-index (omega arith), c.loop-digit.invariant.small)

pub overflow_add-mode : goal.overflow_add-mode
overflow_add-mode c = omega (arith, le-pow8 c.loop-digit.digit-index (omega arith), c.loop-digit.invariant.small)
