-- What rows and a listing have to agree on.
use Rattle.std.specs.Prelude.{ℕ, IsFalse, List, Option}
use Rattle.trio_rights.specs.ByKind.{is_directory}
use Rattle.trio_rights.specs.Row.{Row, row_in, is_child}
use Rattle.trio_lists.specs.Lists.{In}
use Rattle.trio_layout.specs.Listing.{Listing, ListedFile}

-- no row names a judged file for its parent that is no directory
abbrev pub DataFilesAreLeaves : Listing → List (Option Row) → Type 0
DataFilesAreLeaves l rows =
    (f : ListedFile) → In f l.files → IsFalse (is_directory f.row.kind) → (n : ℕ) → IsFalse (is_child f.ino (row_in rows n))
