-- The words of a line: numbers, modes, bytes in hexadecimal digits, lists of numbers, texts and paths.
use Rattle.std.specs.Prelude.{ℕ, zero, suc, ◌+◌, ◌-◌, ◌*◌, ◌%◌, ◌^◌, ◌==◌, nat_lt, nat_le, Bool, true, not, ◌&&◌, ◌||◌, List, [], ◌∷◌, ◌++◌, length, slice_index, Option, None, Some, if◌then◌else◌, codes}
use Rattle.std.specs.List.{list_all, list_any, slice_split}
use Rattle.std.specs.Str.{bytes_eq}
use Rattle.trio_names.specs.Name.{is_name}

-- the words of a line: the bytes between single spaces (32), so that two spaces have an empty word between them
abbrev pub words_of : List ℕ → List (List ℕ)
words_of line = slice_split (λ b. b == 32) line

-- a decimal digit, 0 (48) to 9 (57)
abbrev pub is_digit : ℕ → Bool
is_digit b = nat_le 48 b && nat_le b 57

-- the number that digits of this base write, after the digits of another
abbrev pub digits_after : ℕ → ℕ → List ℕ → ℕ
digits_after base n [] = n
digits_after base n (b ∷ bytes) = digits_after base (n * base + (b - 48)) bytes

-- digits, the first of which is a zero (48) only where it is the only one
abbrev pub is_numeral : List ℕ → Bool
is_numeral word = list_all is_digit word && nat_lt 0 (length word) && (length word == 1 || not (slice_index word 0 == 48))

-- a number: a numeral of at most 4,294,967,295
abbrev pub number_of : List ℕ → Option ℕ
number_of word = if is_numeral word && nat_lt (digits_after 10 0 word) (2 ^ 32) then Some (digits_after 10 0 word) else None

-- an octal digit, 0 (48) to 7 (55)
abbrev pub is_octal_digit : ℕ → Bool
is_octal_digit b = nat_le 48 b && nat_le b 55

-- 1 to 4 octal digits
abbrev pub is_octal : List ℕ → Bool
is_octal word = list_all is_octal_digit word && nat_lt 0 (length word) && nat_le (length word) 4

-- a mode: 1 to 4 octal digits, of which the first may be a zero
abbrev pub mode_of : List ℕ → Option ℕ
mode_of word = if is_octal word then Some (digits_after 8 0 word) else None

-- a hexadecimal digit: 0 (48) to 9 (57), or a (97) to f (102)
abbrev pub is_hex_digit : ℕ → Bool
is_hex_digit b = is_digit b || (nat_le 97 b && nat_le b 102)

-- the value of a hexadecimal digit
abbrev pub hex_value : ℕ → ℕ
hex_value b = if nat_lt b 97 then b - 48 else b - 87

-- the bytes that hexadecimal digits write, two a byte, the higher first
abbrev pub hex_bytes : List ℕ → List ℕ
hex_bytes (high ∷ low ∷ digits) = (hex_value high * 16 + hex_value low) ∷ hex_bytes digits
hex_bytes _ = []

-- two digits for each of 1 to 4096 bytes
abbrev pub is_hex : List ℕ → Bool
is_hex word = list_all is_hex_digit word && length word % 2 == 0 && nat_lt 0 (length word) && nat_le (length word) 8192

-- 1 to 4096 bytes
abbrev pub hex_of : List ℕ → Option (List ℕ)
hex_of word = if is_hex word then Some (hex_bytes word) else None

-- a number and the numbers after it, where all of them are numbers
abbrev pub number_before : Option ℕ → Option (List ℕ) → Option (List ℕ)
number_before (Some n) (Some ns) = Some (n ∷ ns)
number_before _ _ = None

-- the number that each part is, where each is one
abbrev pub numbers_of : List (List ℕ) → Option (List ℕ)
numbers_of [] = Some []
numbers_of (part ∷ parts) = number_before (number_of part) (numbers_of parts)

-- no number stands twice, nor is one of those that were seen
abbrev pub are_new : List ℕ → List ℕ → Bool
are_new seen [] = true
are_new seen (n ∷ ns) = not (list_any (λ m. n == m) seen) && are_new (seen ++ n ∷ []) ns

-- the numbers, where none stands twice
abbrev pub without_repeat : Option (List ℕ) → Option (List ℕ)
without_repeat (Some ns) = if are_new [] ns then Some ns else None
without_repeat None = None

-- a list of numbers, none of them twice: they are joined by commas (44), and `-` says that there is none
abbrev pub list_of : List ℕ → Option (List ℕ)
list_of word = if bytes_eq word (codes "-") then Some [] else without_repeat (numbers_of (slice_split (λ b. b == 44) word))

-- ---- texts and paths

-- a byte that a text word may have: from the exclamation mark (33) to the tilde (126)
abbrev pub is_visible : ℕ → Bool
is_visible b = nat_le 33 b && nat_le b 126

-- an upper-case hexadecimal digit: 0 (48) to 9 (57), or A (65) to F (70)
abbrev pub is_upper_digit : ℕ → Bool
is_upper_digit b = is_digit b || (nat_le 65 b && nat_le b 70)

-- the value of an upper-case hexadecimal digit
abbrev pub upper_value : ℕ → ℕ
upper_value b = if nat_lt b 65 then b - 48 else b - 55

-- the byte that stands behind a backslash, as `x` (120) and two upper-case hexadecimal digits, the higher first
abbrev pub escape_of : List ℕ → Option ℕ
escape_of (x ∷ high ∷ low ∷ word) = if x == 120 && is_upper_digit high && is_upper_digit low then Some (upper_value high * 16 + upper_value low) else None
escape_of _ = None

-- What a word stands for behind its first `past` bytes, which were told already: a backslash (92) and the three bytes behind it
-- stand for the byte that they write, and each other visible byte for itself.
abbrev pub text_behind : ℕ → List ℕ → Option (List ℕ)
text_behind past [] = Some []
text_behind zero (b ∷ word) =
    if b == 92 then number_before (escape_of word) (text_behind 3 word) else
    (if is_visible b then number_before (Some b) (text_behind 0 word) else None)
text_behind (suc past) (b ∷ word) = text_behind past word

-- the bytes that a text word stands for
abbrev pub text_of : List ℕ → Option (List ℕ)
text_of word = text_behind 0 word

-- 1 to 4096 bytes
abbrev pub not_long : Option (List ℕ) → Option (List ℕ)
not_long (Some bytes) = if nat_lt 0 (length bytes) && nat_le (length bytes) 4096 then Some bytes else None
not_long None = None

-- the bytes that are to be written: a text word that stands for 1 to 4096 of them
abbrev pub written_of : List ℕ → Option (List ℕ)
written_of word = not_long (text_of word)

-- the names behind the first slash, where nothing stands before it and each part is a name
abbrev pub names_in : List (List ℕ) → Option (List (List ℕ))
names_in ([] ∷ name ∷ names) = if list_all is_name (name ∷ names) then Some (name ∷ names) else None
names_in _ = None

-- The names of the path that these bytes are, from the root down: a slash (47) stands before each, and a slash alone is the root,
-- which has none.
abbrev pub names_of : List ℕ → Option (List (List ℕ))
names_of bytes = if bytes_eq bytes (codes "/") then Some [] else names_in (slice_split (λ b. b == 47) bytes)

-- the names of the path that a text stands for
abbrev pub path_in : Option (List ℕ) → Option (List (List ℕ))
path_in (Some bytes) = names_of bytes
path_in None = None

-- a path: a text word whose bytes are one
abbrev pub path_of : List ℕ → Option (List (List ℕ))
path_of word = path_in (text_of word)
