-- What is asked of judged files where a row names a number for its parent.
use Rattle.std.specs.Prelude.{ℕ, ◌==◌, Bool, not, ◌||◌, IsFalse, Option}
use Rattle.trio_rights.specs.ByKind.{is_directory}
use Rattle.trio_rights.specs.Row.{Row, is_child}
use Rattle.trio_rights.specs.declared.kind.Kind.{Kind}
use Rattle.trio_lists.specs.Lists.{In}
use Rattle.trio_layout.specs.Listing.{Listing, ListedFile}

-- a file of this kind and number is a directory, or has another number than this
abbrev pub is_other : Kind → ℕ → ℕ → Bool
is_other kind ino n = not (ino == n) || is_directory kind

-- the row names no judged file for its parent that is no directory
abbrev pub HasNoFile : Listing → Option Row → Type 0
HasNoFile l row = (f : ListedFile) → In f l.files → IsFalse (is_directory f.row.kind) → IsFalse (is_child f.ino row)
