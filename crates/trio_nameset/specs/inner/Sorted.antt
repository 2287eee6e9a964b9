-- Names that are linked in byte order. Cited by the set's own invariant and by private functions alone.
use Rattle.std.specs.Prelude.{ℕ, ◌≡◌, ◌<◌, ◌≤◌, ◌^◌, List, [], length, Option, None, Some, slice_index_or}
use Rattle.std.specs.Vec.{vec_len, vec_capacity}
use Rattle.std.specs.Ordering.{nat_cmp}
use Rattle.std.specs.declared.cmp.Ordering.TheVariants.{Less}
use Rattle.std.specs.Cmp.Lexicographic.{slice_cmp}
use Rattle.trio_nameset.specs.declared.sorted.Position.{Position}
use Rattle.trio_nameset.specs.declared.sorted.Position.TheVariants.{Front, After}
use Rattle.trio_nameset.specs.declared.sorted.SortedNames.{SortedNames}

-- the name at an index
abbrev pub nth : List (List ℕ) → ℕ → List ℕ
nth names i = slice_index_or names i []

-- one name is below another in byte order
abbrev pub IsLess : List ℕ → List ℕ → Type 0
IsLess a b = slice_cmp nat_cmp a b ≡ Less

-- the position is one among these names
abbrev pub IsWithin : List (List ℕ) → Position → Type 0
IsWithin names Front = Unit {0}
IsWithin names (After i) = i < length names

-- a name is above the one that the position follows
abbrev pub IsAbove : List (List ℕ) → Position → List ℕ → Type 0
IsAbove names Front name = Unit {0}
IsAbove names (After i) name = IsLess (nth names i) name

-- a name is below the one that a link leads to
abbrev pub IsBelow : List (List ℕ) → Option ℕ → List ℕ → Type 0
IsBelow names None name = Unit {0}
IsBelow names (Some i) name = IsLess name (nth names i)

-- the index of the name that follows a position
abbrev pub link_at : Option ℕ → List (Option ℕ) → Position → Option ℕ
link_at first next Front = first
link_at first next (After i) = slice_index_or next i None

-- a link leads to a name, and upwards from the position
abbrev pub LeadsUp : List (List ℕ) → Position → Option ℕ → Type 0
LeadsUp names at None = Unit {0}
LeadsUp names at (Some i) = (i < length names) × IsAbove names at (nth names i)

-- no name lies between the two at a position
abbrev pub IsGap : List (List ℕ) → Position → Option ℕ → Type 0
IsGap names at link =
    (k : ℕ) → k < length names → IsAbove names at (nth names k) → IsBelow names link (nth names k) → ⊥

-- a name that isn't among these belongs at this position
pub record IsPlace (s : SortedNames) (name : List ℕ) (at : Position) : Type 0 where
  pub within : IsWithin s.names.items at
  pub above : IsAbove s.names.items at name
  pub below : IsBelow s.names.items (link_at s.first s.next.items at) name

-- the names differ, and each link leads to the next name in byte order
pub record IsLinked (names : List (List ℕ)) (first : Option ℕ) (next : List (Option ℕ)) : Type 0 where
  pub apart : (i j : ℕ) → i < length names → j < length names → nth names i ≡ nth names j → i ≡ j
  pub rising : (at : Position) → IsWithin names at → LeadsUp names at (link_at first next at)
  pub gaps : (at : Position) → IsWithin names at → IsGap names at (link_at first next at)

-- the names are linked, and there is memory for as many names as there are links
pub record IsSorted (s : SortedNames) : Type 0 where
  pub linked : IsLinked s.names.items s.first s.next.items
  pub few : vec_len s.names ≤ vec_len s.next
  pub room : vec_len s.next ≤ vec_capacity s.names
  pub counted : vec_len s.next < 2 ^ 32
