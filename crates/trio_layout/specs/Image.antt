-- An image: its core and its tables.
use Rattle.std.specs.Prelude.{◌≡◌, ◌≤◌, ℕ, ◌==◌, List, [], Option, Some, None, if◌then◌else◌, length}
use Rattle.std.specs.Option.{option_map_or}
use Rattle.trio_rights.specs.Row.{Row, row_in}
use Rattle.trio_layout.specs.Core.{Core, page_of}
use Rattle.trio_layout.specs.Entries.{body_in_slot}

-- rows by inode number, owners by page
pub record Image : Type 0 where
  pub core : Core
  pub rows : List (Option Row)
  pub owners : List ℕ

-- the row of a live number
abbrev pub row_at : Image → ℕ → Option Row
row_at image n = row_in image.rows n

-- the image with other pages
abbrev pub with_core_pages : Image → List (Option (List ℕ)) → Image
with_core_pages image pages = record {
  core = record { pages = pages; root = image.core.root; range = image.core.range; inodes = image.core.inodes };
  rows = image.rows;
  owners = image.owners;
}

-- the 64 bytes of the body at a place
abbrev pub body_at_place : Core → ℕ → ℕ → List ℕ
body_at_place core page slot = option_map_or (body_in_slot slot) (page_of core page) []

-- the body at the place that a row names
abbrev pub body_by_row : Core → Option Row → List ℕ
body_by_row core None = []
body_by_row core (Some r) = body_at_place core r.page r.slot

-- the body of a live file: the root's own, or the one at the place that its row names
abbrev pub settled_body : Image → ℕ → List ℕ
settled_body image n = if n == 1 then image.core.root else body_by_row image.core (row_at image n)

-- What holds of every core in the code by its types: each page has 4096 bytes, each core page has its place in the list, and
-- there is a number for the root.
pub record IsFit (core : Core) : Type 0 where
  pub full : (p : ℕ) (bytes : List ℕ) → page_of core p ≡ Some bytes → length bytes ≡ 4096
  pub long : core.range.end ≤ length core.pages
  pub numbers : 1 ≤ core.inodes
