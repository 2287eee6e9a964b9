-- The pages of an image before its core: the superblock and the stored tables.
use Rattle.std.specs.Prelude.{◌≡◌, ℕ, ◌-◌, ◌*◌, List, ◌∷◌, ◌++◌, Option, Some, length}
use Rattle.trio_rights.specs.Row.{Row}
use Rattle.trio_tables.specs.Stored.{shadow_bytes, owner_bytes, padded_to_pages, page_at}
use Rattle.trio_layout.specs.declared.superblock.Superblock.{Superblock}
use Rattle.trio_layout.specs.Superblock.{superblock_bytes, page_count}
use Rattle.trio_lists.specs.Lists.{tabulated}

-- with zeros behind them the bytes are so many pages
abbrev pub FillsPages : List ℕ → ℕ → Type 0
FillsPages bytes n = length (padded_to_pages bytes) ≡ 4096 * n

-- the first n pages of a stored table
abbrev pub table_pages : List ℕ → ℕ → List (Option (List ℕ))
table_pages bytes n = tabulated (λ k. Some (page_at k bytes)) n

-- how many pages the shadow table has, and how many the table of owners
abbrev pub shadow_count : List (Option Row) → ℕ
shadow_count rows = page_count (32 * (length rows - 1))

abbrev pub owner_count : List ℕ → ℕ
owner_count owners = page_count (4 * length owners)

-- the shadow pages, and the owner pages
abbrev pub shadow_pages : List (Option Row) → List (Option (List ℕ))
shadow_pages rows = table_pages (padded_to_pages (shadow_bytes rows)) (shadow_count rows)

abbrev pub owner_pages : List ℕ → List (Option (List ℕ))
owner_pages owners = table_pages (padded_to_pages (owner_bytes owners)) (owner_count owners)

-- the superblock, the shadow pages and the owner pages
unfoldable pub front_pages : Superblock → List (Option Row) → List ℕ → List (Option (List ℕ))
front_pages s rows owners = Some (superblock_bytes s) ∷ (shadow_pages rows ++ owner_pages owners)
