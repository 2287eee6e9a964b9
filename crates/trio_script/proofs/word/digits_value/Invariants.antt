use Rattle.trio_script.proofs.Words.{◌<◌, ◌^◌, ◌≡◌, digits_after, drop}
use Rattle.trio_script.proofs.word.digits_value.Given as goal

abbrev pub invariant-loop-digit : goal.invariant-loop-digit
invariant-loop-digit l = record {
  small : l.number < 2 ^ 32;
  read : digits_after 10 0 l.digits ≡ digits_after 10 l.number (drop l.digit-index l.digits);
}
