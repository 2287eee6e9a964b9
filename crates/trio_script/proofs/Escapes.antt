-- Bytes as they are printed, read as a text word.
use Rattle.trio_script.proofs.Words.{◌&&◌, ◌*◌, ◌+◌, ◌<◌, ◌==◌, ◌∷◌, ◌≡◌, AllByRecursion, Bool, List, Some, [], and_parts, arith, false, nat_lt, nat_tests, not, refl, text_of, true, ℕ}
use Rattle.std.proofs.Common.{◌/◌, ◌%◌}
use Rattle.trio_names.specs.Escaped.{escaped_of, hex_digit}
use Rattle.trio_script.specs.Words.{is_upper_digit, is_visible, upper_value}

digit_read : (d : ℕ) → d < 16 → (is_upper_digit (hex_digit d) ≡ true) × (upper_value (hex_digit d) ≡ d)
digit_read d lt = by (nat_lt d 10) refl
  where
    by : (t : Bool) → nat_lt d 10 ≡ t → (is_upper_digit (hex_digit d) ≡ true) × (upper_value (hex_digit d) ≡ d)
    by true small = rw small (grind (arith, nat_tests), grind (arith, nat_tests))
    by false large = rw large (grind (arith, nat_tests), grind (arith, nat_tests))

-- a byte that stands for itself
plain_read : (b : ℕ) (word bytes : List ℕ) → is_visible b ≡ true → (b == 92) ≡ false → text_of word ≡ Some bytes → text_of (b ∷ word) ≡ Some (b ∷ bytes)
plain_read b word bytes seen other rest = rw (other, seen, rest) refl

-- a byte that is written by two digits
written_read : (b high low : ℕ) (word bytes : List ℕ) → is_upper_digit high ≡ true → is_upper_digit low ≡ true → upper_value high * 16 + upper_value low ≡ b → text_of word ≡ Some bytes
    → text_of (92 ∷ 120 ∷ high ∷ low ∷ word) ≡ Some (b ∷ bytes)
written_read b high low word bytes h l value rest = rw (h, l, ← value, rest) refl

one_read : (b : ℕ) (bytes : List ℕ) → b < 256 → text_of (escaped_of bytes) ≡ Some bytes → text_of (escaped_of (b ∷ bytes)) ≡ Some (b ∷ bytes)
one_read b bytes lt rest = by (is_visible b && not (b == 92)) refl
  where
    by : (t : Bool) → (is_visible b && not (b == 92)) ≡ t → text_of (escaped_of (b ∷ bytes)) ≡ Some (b ∷ bytes)
    by true itself =
        let p = and_parts (is_visible b) (not (b == 92)) itself in
        let other : (b == 92) ≡ false = grind (arith, nat_tests, p.1) in
        rw itself (plain_read b (escaped_of bytes) bytes p.0 other rest)
    by false other =
        let high = digit_read (b / 16) (omega (arith, lt)) in
        let low = digit_read (b % 16) (omega arith) in
        rw other (written_read b (hex_digit (b / 16)) (hex_digit (b % 16)) (escaped_of bytes) bytes high.0 low.0 (omega (arith, high.1, low.1)) rest)

pub text_of-escaped_of : (bytes : List ℕ) → AllByRecursion (λ b. b < 256) bytes → text_of (escaped_of bytes) ≡ Some bytes
text_of-escaped_of [] all = refl
text_of-escaped_of (b ∷ bytes) all = one_read b bytes all.0 (text_of-escaped_of bytes all.1)
