-- One row at a time. Cited by private functions alone.
use Rattle.std.specs.Prelude.{ℕ, ◌<◌, Bool, false, not, ◌&&◌, ◌⊎◌, IsFalse, List, Option, None, Some}
use Rattle.trio_rights.specs.Row.{Row, row_in}
use Rattle.trio_lists.specs.Lists.{In, is_among}
use Rattle.trio_layout.specs.Listing.{Listing}
use Rattle.trio_layout.specs.Edges.{is_listed, leaves_none, stays_listed}

-- the file of the row is a recorded child of a held file that is listed nowhere
abbrev pub drops_parent : Listing → Option Row → Bool
drops_parent l None = false
drops_parent l (Some r) = is_among r.parent l.held && not (is_listed l r.parent)

-- the number is neither lost nor dropped by its parent
abbrev pub is_clear : Listing → List (Option Row) → ℕ → Bool
is_clear l rows n = stays_listed l n (row_in rows n) && not (drops_parent l (row_in rows n))

-- a lost child, or a held file that is dropped over its children
abbrev pub IsLost : Listing → List (Option Row) → ℕ → Type 0
IsLost l rows ino =
    ((0 < ino) × IsFalse (stays_listed l ino (row_in rows ino))) ⊎ (In ino l.held × IsFalse (leaves_none l rows ino))
