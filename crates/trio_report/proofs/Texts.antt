-- The texts of a tree's JSON are visible ASCII, and no number in it is a float.
use Rattle.std.proofs.Common.{◌≡◌, ℕ, zero, suc, ◌<◌, List, [], ◌∷◌, All, false, map, refl, arith}
use Rattle.std.specs.Prelude.{slice_index}
use Rattle.std.specs.Str.{IsUtf8}
use Rattle.std.proofs.lemmas.List.Elements.{All-from_recursion, All-tail}
use Rattle.std.proofs.lemmas.Str.{IsUtf8-from_ascii}
use Rattle.serde_json.specs.View.{items_of}
use Rattle.serde_json.specs.Written.{has_float, items_have_float}
use Rattle.trio_names.specs.Escaped.{IsVisible}
use Rattle.trio_layout.specs.Tree.{TreeLine}
use Rattle.trio_report.specs.Json.{json_of_line, json_of_lines}
use Rattle.trio_report.specs.Octal.{octal_of}

ascii : (bytes : List ℕ) → All IsVisible bytes → (i : ℕ) → slice_index bytes i < 128
ascii [] visible i = omega arith
ascii (b ∷ bytes) visible zero = omega (arith, (visible 0 0 (omega arith)).1)
ascii (b ∷ bytes) visible (suc i) = ascii bytes (All-tail IsVisible b bytes visible) i

pub utf8_of_visible : (bytes : List ℕ) → All IsVisible bytes → IsUtf8 bytes
utf8_of_visible bytes visible = IsUtf8-from_ascii bytes (ascii bytes visible)

pub octal_visible : (mode : ℕ) → All IsVisible (octal_of mode)
octal_visible mode =
    All-from_recursion IsVisible (octal_of mode) ((omega arith, omega arith), ((omega arith, omega arith), ((omega arith, omega arith), tt)))

no_float_in : (lines : List TreeLine) → items_have_float (items_of (map json_of_line lines)) ≡ false
no_float_in [] = refl
no_float_in (l ∷ lines) = no_float_in lines

pub no_float : (lines : List TreeLine) → has_float (json_of_lines lines) ≡ false
no_float lines = no_float_in lines
