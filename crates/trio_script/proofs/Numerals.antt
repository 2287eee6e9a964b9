-- Digits, read one after another.
use Rattle.trio_script.proofs.Words.{◌*◌, ◌++◌, ◌+◌, ◌-◌, ◌<◌, ◌^◌, ◌∙◌, ◌∷◌, ◌≡◌, ◌≤◌, List, None, Some, [], add-one, append_assoc, arith, digits_after, drop, drop-cons, false, get_or, hex_bytes, length, nat_lt, nat_tests, refl, suc, true, zero, ℕ}
use Rattle.std.proofs.Common.{cond}
use Rattle.std.proofs.Math.ListN.{drop_of_length-le}
use Rattle.trio_script.specs.Words.{hex_value}

pub le-digits_after : (n : ℕ) (bs : List ℕ) → n ≤ digits_after 10 n bs
le-digits_after n [] = omega arith
le-digits_after n (b ∷ bs) = omega (arith, le-digits_after (n * 10 + (b - 48)) bs)

-- one digit more
pub one_digit : (base : ℕ) (ds : List ℕ) (n i : ℕ) → i < length ds → digits_after base 0 ds ≡ digits_after base n (drop i ds) → digits_after base 0 ds ≡ digits_after base (n * base + (get_or ds i 0 - 48)) (drop (i + 1) ds)
one_digit base ds n i within e = rw (drop-cons ds i 0 within, ← add-one i) at e

-- a number that is too large stays so
pub too_large : (ds : List ℕ) (n i : ℕ) → i < length ds → digits_after 10 0 ds ≡ digits_after 10 n (drop i ds) → 2 ^ 32 ≤ n * 10 + (get_or ds i 0 - 48)
    → None ≡ cond (nat_lt (digits_after 10 0 ds) (2 ^ 32)) (Some (digits_after 10 0 ds)) None
too_large ds n i within e over =
    let large : 2 ^ 32 ≤ digits_after 10 0 ds = rw (one_digit 10 ds n i within e) (omega (arith, le-digits_after (n * 10 + (get_or ds i 0 - 48)) (drop (i + 1) ds))) in
    let test : nat_lt (digits_after 10 0 ds) (2 ^ 32) ≡ false = grind (arith, nat_tests) in
    rw test refl

-- all digits are read
pub all_digits : (ds : List ℕ) (n i : ℕ) → length ds ≤ i → n < 2 ^ 32 → digits_after 10 0 ds ≡ digits_after 10 n (drop i ds)
    → Some n ≡ cond (nat_lt (digits_after 10 0 ds) (2 ^ 32)) (Some (digits_after 10 0 ds)) None
all_digits ds n i all small e =
    let none : drop i ds ≡ [] = drop_of_length-le ds all in
    let same : digits_after 10 0 ds ≡ n = rw none at e in
    let test : nat_lt n (2 ^ 32) ≡ true = grind (arith, nat_tests) in
    rw (same, test) refl

-- two digits and the digits after them
abbrev pub bytes_from : List ℕ → ℕ → List ℕ
bytes_from ds i = hex_bytes (drop (2 * i) ds)

pub two_digits : (ds : List ℕ) (i : ℕ) → 2 * i + 1 < length ds
    → bytes_from ds i ≡ (hex_value (get_or ds (2 * i) 0) * 16 + hex_value (get_or ds (2 * i + 1) 0)) ∷ bytes_from ds (i + 1)
two_digits ds i within =
    let next : 2 * (i + 1) ≡ suc (suc (2 * i)) = omega arith in
    let first : 2 * i + 1 ≡ suc (2 * i) = omega arith in
    rw (drop-cons ds (2 * i) 0 (omega arith), drop-cons ds (suc (2 * i)) 0 (omega arith), next, first) refl

-- the next two digits are a byte more
pub one_byte : (ds done new : List ℕ) (i high low : ℕ) → 2 * i + 1 < length ds → high ≡ hex_value (get_or ds (2 * i) 0) → low ≡ hex_value (get_or ds (2 * i + 1) 0)
    → new ≡ done ++ (high * 16 + low) ∷ [] → done ++ bytes_from ds i ≡ hex_bytes ds → new ++ bytes_from ds (i + 1) ≡ hex_bytes ds
one_byte ds done new i high low within h l n e =
    rw (n, h, l) (append_assoc done _ (bytes_from ds (i + 1)) ∙ rw (two_digits ds i within) at e)

-- three octal digits write less than 512
pub le-pow8 : (i : ℕ) → i < 4 → 8 ^ i ≤ 512
le-pow8 zero lt = omega arith
le-pow8 (suc zero) lt = omega arith
le-pow8 (suc (suc zero)) lt = omega arith
le-pow8 (suc (suc (suc zero))) lt = omega arith
le-pow8 (suc (suc (suc (suc i)))) lt = absurd (omega (arith, lt))
