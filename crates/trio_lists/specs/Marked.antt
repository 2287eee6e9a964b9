-- Marks over numbers: how code knows what it has seen. No definition of the claim cites them.
use Rattle.std.specs.Prelude.{◌≡◌, ℕ, ◌<◌, Bool, false, List, length, slice_index_or, nat_lt}
use Rattle.std.specs.List.{list_all}
use Rattle.trio_lists.specs.Lists.{is_among}

-- just these numbers are marked
abbrev pub MarksJust : List Bool → List ℕ → Type 0
MarksJust marks these = (n : ℕ) → n < length marks → slice_index_or marks n false ≡ is_among n these

-- each number has a mark of its own
abbrev pub all_below : ℕ → List ℕ → Bool
all_below n these = list_all (λ x. nat_lt x n) these
