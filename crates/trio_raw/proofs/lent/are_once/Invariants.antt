use Rattle.trio_raw.proofs.Words.{◌≡◌, [], are_new, drop, take}
use Rattle.trio_raw.proofs.lent.are_once.Given as goal

-- what is left is new after what came before exactly where all stand once
abbrev pub invariant-loop-i : goal.invariant-loop-i
invariant-loop-i l = are_new (take l.i l.numbers) (drop l.i l.numbers) ≡ are_new [] l.numbers
