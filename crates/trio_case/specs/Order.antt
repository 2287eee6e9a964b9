-- The pages of a bundle in rising order, and marks over them.
use Rattle.std.specs.Prelude.{ℕ, ◌≡◌, ◌<◌, ◌==◌, Bool, true, false, List, [], ◌∷◌, length, suc, Option, None, Some, slice_index_or, if◌then◌else◌}
use Rattle.std.specs.Option.{option_map, option_map_or}
use Rattle.trio_lists.specs.Lists.{is_among}
use Rattle.trio_lists.specs.Sorting.{sorted_by}

-- each number is greater than those before it
abbrev pub AreRising : List ℕ → Type 0
AreRising ns = (i j : ℕ) → i < j → j < length ns → slice_index_or ns i 0 < slice_index_or ns j 0

-- the place at which a number stands in a list, the first where there are several
abbrev pub place_of : ℕ → List ℕ → Option ℕ
place_of n [] = None
place_of n (x ∷ xs) = if x == n then Some 0 else option_map suc (place_of n xs)

-- pages in rising order
abbrev pub in_order : List ℕ → List ℕ
in_order pages = sorted_by (λ n. n) pages

-- Whether a page is marked, by marks that stand in the order of these pages. None but these is.
abbrev pub is_marked : List ℕ → List Bool → ℕ → Bool
is_marked pages marks page = option_map_or (λ at. slice_index_or marks at false) (place_of page (in_order pages)) false

-- of these pages, just those are marked
abbrev pub AreMarked : List ℕ → List Bool → List ℕ → Type 0
AreMarked pages marks those = (page : ℕ) → is_among page pages ≡ true → is_marked pages marks page ≡ is_among page those
