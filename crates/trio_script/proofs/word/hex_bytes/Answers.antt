use Rattle.trio_script.proofs.Words.{arith}
use Rattle.trio_script.proofs.Numerals.{one_byte}
use Rattle.trio_script.proofs.word.hex_bytes.Goals as goal

pub loop-i-preserved : goal.loop-i-preserved
loop-i-preserved c =
    one_byte c.args.digits.now _ _ c.loop-i.i _ _ (omega arith) c.hex_value.ensures.value c.hex_value-in-loop-i.ensures.value c.in_ok-push.ensures.items c.loop-i.invariant
