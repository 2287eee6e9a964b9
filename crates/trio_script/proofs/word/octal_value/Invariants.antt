use Rattle.trio_script.proofs.Words.{◌<◌, ◌^◌, ◌≡◌, digits_after, drop}
use Rattle.trio_script.proofs.word.octal_value.Given as goal

abbrev pub invariant-loop-digit : goal.invariant-loop-digit
invariant-loop-digit l = record {
  small : l.mode < 8 ^ l.digit-index;
  read : digits_after 8 0 l.digits ≡ digits_after 8 l.mode (drop l.digit-index l.digits);
}
