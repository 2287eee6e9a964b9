-- A set of names, as its names in the order in which they were added. The number of a name is its place in that order,
-- counted from 0.
use Rattle.std.specs.Prelude.{ℕ, ◌≡◌, ◌<◌, Bool, List, [], length, slice_index_or}
use Rattle.std.specs.List.{list_any}
use Rattle.std.specs.Str.{bytes_eq}

-- the names that were added, in order, and how many there is room for
pub record Names : Type 0 where
  pub names : List (List ℕ)
  pub room : ℕ

-- one of the names is this one
abbrev pub contains : List ℕ → List (List ℕ) → Bool
contains name names = list_any (λ n. bytes_eq n name) names

-- equal names have equal numbers
abbrev pub AreApart : List (List ℕ) → Type 0
AreApart names =
    (i j : ℕ) → i < length names → j < length names → slice_index_or names i [] ≡ slice_index_or names j [] → i ≡ j
