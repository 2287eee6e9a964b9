-- Names, and numbers that stand beside them in a list.
use Rattle.std.specs.Prelude.{ℕ, List, map, String, string_bytes, slice_index}
use Rattle.std.specs.List.{position_or_len}
use Rattle.std.specs.Str.{bytes_eq}
use Rattle.std.specs.declared.alloc.Global.{Global}

-- each name as its bytes
abbrev pub texts_of : List (String Global) → List (List ℕ)
texts_of names = map (λ name. string_bytes name) names

-- where a name stands first, or how many names there are
abbrev pub place_of : List (String Global) → List ℕ → ℕ
place_of names q = position_or_len (λ name. bytes_eq (string_bytes name) q) names

-- the count of a name, and 0 for a name that isn't there
abbrev pub count_of : List (String Global) → List ℕ → List ℕ → ℕ
count_of names counts q = slice_index counts (place_of names q)
