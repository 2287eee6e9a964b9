-- What the shadow table says of a live file.
use Rattle.std.specs.Prelude.{ℕ, ◌==◌, Bool, false, List, Option, None, Some, slice_index_or}
use Rattle.trio_rights.specs.declared.kind.Kind.{Kind}
use Rattle.trio_rights.specs.declared.rights.Mode.{Mode}

-- kind, rights, the directory that lists the file, and the page and slot where it does; the root has parent 0 and place 0, 0
pub record Row : Type 0 where
  pub kind : Kind
  pub mode : Mode
  pub uid : ℕ
  pub gid : ℕ
  pub parent : ℕ
  pub page : ℕ
  pub slot : ℕ

-- the row of an inode number, in a list of rows by number; None where the number is not live
abbrev pub row_in : List (Option Row) → ℕ → Option Row
row_in rows ino = slice_index_or rows ino None

-- the row is that of a live file that this directory lists
abbrev pub is_child : ℕ → Option Row → Bool
is_child ino None = false
is_child ino (Some r) = r.parent == ino
