use Rattle.trio_script.proofs.Words.{◌*◌, ◌+◌, ◌^◌, ◌∙◌, ◌≤◌, arith}
use Rattle.trio_script.proofs.Numerals.{too_large, all_digits}
use Rattle.trio_script.proofs.word.digits_value.Goals as goal

pub returns-in_err-checked_mul : goal.returns-in_err-checked_mul
returns-in_err-checked_mul c =
    let over : 2 ^ 32 ≤ c.loop-digit.number * 10 = omega (arith, c.in_err-checked_mul.ensures) in
    c.from_residual.ensures ∙ too_large c.args.digits.now c.loop-digit.number c.loop-digit.digit-index (omega arith) c.loop-digit.invariant.read (omega arith)

pub returns-in_err-number : goal.returns-in_err-number
returns-in_err-number c =
    let ten = c.in_ok-checked_mul.ensures in
    let over : 2 ^ 32 ≤ c.in_ok-checked_mul.field-0 + c.from.result = omega (arith, c.in_err-number.ensures) in
    c.from_residual-in_err-number.ensures ∙ too_large c.args.digits.now c.loop-digit.number c.loop-digit.digit-index (omega arith) c.loop-digit.invariant.read (omega (arith, ten.1, c.from.ensures))

pub returns : goal.returns
returns c = all_digits c.args.digits.now c.loop-digit.number c.loop-digit.digit-index (omega arith) c.loop-digit.invariant.small c.loop-digit.invariant.read
