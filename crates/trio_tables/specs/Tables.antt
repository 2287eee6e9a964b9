-- The two tables as lists: rows by inode number, None at 0, and owners by page number.
use Rattle.std.specs.Prelude.{ℕ, ◌+◌, ◌-◌, ◌==◌, Bool, false, List, ◌++◌, Option, None, Some, replicate, is_some}
use Rattle.std.specs.List.{count_by}
use Rattle.trio_rights.specs.Row.{Row}
pub use Rattle.trio_rights.specs.Row.{is_child}

-- how many live files name this directory as the one that lists them
abbrev pub child_count : ℕ → List (Option Row) → ℕ
child_count ino rows = count_by (is_child ino) rows

-- how many numbers are live
abbrev pub live_count : List (Option Row) → ℕ
live_count rows = count_by is_some rows

-- the table of so many inode numbers of which none is live
abbrev pub no_rows : ℕ → List (Option Row)
no_rows inodes = replicate (inodes + 1) None

-- how many pages have no owner
abbrev pub free_count : List ℕ → ℕ
free_count owners = count_by (λ owner. owner == 0) owners

-- the table in which each core page is free and the controller has those below the first core page
abbrev pub free_owners : ℕ → ℕ → List ℕ
free_owners pages first_core = replicate first_core 0xFFFFFFFF ++ replicate (pages - first_core) 0
