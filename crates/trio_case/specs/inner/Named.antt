-- Marks over the names that were seen. Cited by private functions alone.
use Rattle.std.specs.Prelude.{ℕ, ◌≡◌, ◌<◌, ◌≤◌, Bool, false, List, [], length, slice_index_or}
use Rattle.trio_layout.specs.Entries.{Listed, has_name}
use Rattle.trio_nameset.specs.Names.{AreApart}

-- Equal names have equal numbers, there is a mark for each, and just the names of the entries seen are marked.
pub record MarksNames (names : List (List ℕ)) (marks : List Bool) (seen : List Listed) : Type 0 where
  pub apart : AreApart names
  pub within : length names ≤ length marks
  pub marked : (i : ℕ) → i < length names → slice_index_or marks i false ≡ has_name (slice_index_or names i []) seen
