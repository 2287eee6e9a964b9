-- How bytes are printed.
use Rattle.std.specs.Prelude.{ℕ, ◌≤◌, ◌+◌, ◌/◌, ◌%◌, ◌==◌, ◌&&◌, nat_lt, nat_le, not, if◌then◌else◌, List, [], ◌∷◌}
use Rattle.std.specs.List.{flat_map}

-- the digits 0 to 9 (from 48 on), then A to F (from 65 on)
abbrev pub hex_digit : ℕ → ℕ
hex_digit d = if nat_lt d 10 then 48 + d else 55 + d

-- a byte from 33 to 126 other than the backslash (92) stands for itself; each other byte is a backslash, x (120) and its two digits
abbrev pub escaped_byte : ℕ → List ℕ
escaped_byte b =
    if nat_le 33 b && nat_le b 126 && not (b == 92) then b ∷ [] else 92 ∷ 120 ∷ hex_digit (b / 16) ∷ hex_digit (b % 16) ∷ []

-- each byte as it is printed, one after another
abbrev pub escaped_of : List ℕ → List ℕ
escaped_of bytes = flat_map escaped_byte bytes

-- a visible byte of ASCII, from the exclamation mark to the tilde
abbrev pub IsVisible : ℕ → Type 0
IsVisible b = (33 ≤ b) × (b ≤ 126)
