-- What an image has in use.
use Rattle.std.specs.Prelude.{ℕ, ◌==◌, Bool, not, ◌&&◌, List, Option}
use Rattle.std.specs.List.{count_by}
use Rattle.trio_rights.specs.Row.{Row}
use Rattle.trio_tables.specs.Tables.{live_count, free_count}
use Rattle.trio_layout.specs.Image.{Image}
use Rattle.trio_image.specs.declared.counts.Counts.{Counts}

-- whether this owner is a file: neither 0, which is a free page's, nor the controller
abbrev pub is_file : ℕ → Bool
is_file owner = not (owner == 0) && not (owner == 0xFFFFFFFF)

-- how many pages files own
abbrev pub owned_count : List ℕ → ℕ
owned_count owners = count_by is_file owners

-- the counts of these tables
abbrev pub counts_in_tables : List (Option Row) → List ℕ → Counts
counts_in_tables rows owners = record { inodes = live_count rows; pages = owned_count owners; free = free_count owners }

-- live inode numbers, core pages that files own, and free core pages
abbrev pub counts_of : Image → Counts
counts_of image = counts_in_tables image.rows image.owners
