-- The tables of a new image. Cited by private functions alone.
use Rattle.std.specs.Prelude.{ℕ, List, Option, Some, replicate, slice_set}
use Rattle.trio_page.specs.Field.{zeros}
use Rattle.trio_rights.specs.declared.kind.Kind.TheVariants.{Directory}
use Rattle.trio_rights.specs.Row.{Row}
use Rattle.trio_tables.specs.Tables.{no_rows}
use Rattle.trio_image.specs.Made.{empty_directory}

-- the root's row
abbrev pub root_row : Row
root_row = record {
  kind = Directory;
  mode = empty_directory.mode;
  uid = 0;
  gid = 0;
  parent = 0;
  page = 0;
  slot = 0;
}

-- the rows of so many inode numbers, of which just the root's is live
abbrev pub root_rows : ℕ → List (Option Row)
root_rows inodes = slice_set (no_rows inodes) 1 (Some root_row)

-- so many pages that are all zero
abbrev pub zero_pages : ℕ → List (Option (List ℕ))
zero_pages n = replicate n (Some (zeros 4096))
