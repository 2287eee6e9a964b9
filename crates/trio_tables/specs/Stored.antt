-- The stored form of the tables: their rows one behind another, and zeros up to whole pages.
use Rattle.std.specs.Prelude.{ℕ, ◌≡◌, ◌≢◌, ◌+◌, ◌-◌, ◌*◌, ◌%◌, ◌<◌, ◌≤◌, List, ◌++◌, Option, length, drop, slice_index, slice_range}
use Rattle.std.specs.List.{flat_map}
use Rattle.std.specs.Int.{w32, to_le_bytes}
use Rattle.trio_page.specs.Field.{zeros}
use Rattle.trio_rights.specs.Row.{Row, row_in}
use Rattle.trio_tables.specs.Row.{row_bytes}

-- the rows of the numbers from 1 on, 32 bytes each; index 0 of the list isn't stored
unfoldable pub shadow_bytes : List (Option Row) → List ℕ
shadow_bytes rows = flat_map row_bytes (drop 1 rows)

-- the owners of the pages from 0 on, 4 bytes each
unfoldable pub owner_bytes : List ℕ → List ℕ
owner_bytes owners = flat_map (to_le_bytes w32) owners

-- the bytes, and zeros up to the end of the last page
unfoldable pub padded_to_pages : List ℕ → List ℕ
padded_to_pages bytes = bytes ++ zeros ((4096 - length bytes % 4096) % 4096)

-- one page of bytes
abbrev pub page_at : ℕ → List ℕ → List ℕ
page_at k bytes = slice_range bytes (4096 * k) (4096 * k + 4096)

-- what stands at an inode number's place in the page at k, which has 128 rows, isn't its row in the table
pub record RowDiffers (rows : List (Option Row)) (k : ℕ) (page : List ℕ) (ino : ℕ) : Type 0 where
  pub above : 128 * k < ino
  pub below : ino ≤ 128 * k + 128
  pub within : ino < length rows
  pub differs : slice_range page (32 * (ino - (128 * k + 1))) (32 * (ino - (128 * k + 1)) + 32) ≢ row_bytes (row_in rows ino)

-- what stands at a page number's place in the page at k, which has 1024 owners, isn't its owner in the table
pub record OwnerDiffers (owners : List ℕ) (k : ℕ) (page : List ℕ) (no : ℕ) : Type 0 where
  pub above : 1024 * k ≤ no
  pub below : no < 1024 * k + 1024
  pub within : no < length owners
  pub differs : slice_range page (4 * (no - 1024 * k)) (4 * (no - 1024 * k) + 4) ≢ to_le_bytes w32 (slice_index owners no)

-- ---- cited by private functions alone

-- at the i-th place of the page at k stands the row that the table has there
abbrev pub HasRow : List (Option Row) → ℕ → List ℕ → ℕ → Type 0
HasRow rows k page i = slice_range page (32 * i) (32 * i + 32) ≡ row_bytes (row_in rows (128 * k + i + 1))

-- at the i-th place of the page at k stands the owner that the table has there
abbrev pub HasOwner : List ℕ → ℕ → List ℕ → ℕ → Type 0
HasOwner owners k page i = slice_range page (4 * i) (4 * i + 4) ≡ to_le_bytes w32 (slice_index owners (1024 * k + i))
