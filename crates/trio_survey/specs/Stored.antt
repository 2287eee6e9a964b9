-- An image as its pages: the superblock, the shadow pages, the owner pages, and the core.
use Rattle.std.specs.Prelude.{◌≡◌, ℕ, zero, suc, ◌+◌, ◌*◌, ◌<◌, ◌≤◌, List, [], ◌∷◌, Option, None, Some, length, take, drop, unwrap_or, slice_index_or}
use Rattle.std.specs.List.{flat_map}
use Rattle.trio_rights.specs.Row.{Row}
use Rattle.trio_tables.specs.Stored.{shadow_bytes, owner_bytes, padded_to_pages, page_at}
use Rattle.trio_layout.specs.declared.superblock.Superblock.{Superblock}
use Rattle.trio_layout.specs.Superblock.{current_version, superblock_bytes, IsSuperblock, IsSuperblockOf}
use Rattle.trio_layout.specs.Core.{Core}
use Rattle.trio_layout.specs.Survey.{plain, survey}
use Rattle.trio_layout.specs.Sound.{IsSound, rows_table, owners_table}
use Rattle.trio_layout.specs.Image.{Image}

-- the core of an image that has this superblock and these pages
abbrev pub core_in : Superblock → List (Option (List ℕ)) → Core
core_in s pages = record {
  pages = pages;
  root = s.root;
  range = record { first = s.first_core; end = s.pages };
  inodes = s.inodes;
}

-- the page at a number is there and has these bytes
abbrev pub HasPage : List (Option (List ℕ)) → ℕ → List ℕ → Type 0
HasPage pages number bytes = slice_index_or pages number None ≡ Some bytes

-- the shadow pages and the owner pages are these tables', with zeros behind them
pub record StoresTables (s : Superblock) (pages : List (Option (List ℕ))) (rows : List (Option Row)) (owners : List ℕ) : Type 0 where
  pub shadow : (k : ℕ) → 1 + k < s.first_owner → HasPage pages (1 + k) (page_at k (padded_to_pages (shadow_bytes rows)))
  pub owner : (k : ℕ) → s.first_owner + k < s.first_core → HasPage pages (s.first_owner + k) (page_at k (padded_to_pages (owner_bytes owners)))

-- With this superblock: the plain survey of the core is sound, and the stored tables are exactly its rows and owners.
pub record PagesVerify (s : Superblock) (pages : List (Option (List ℕ))) : Type 0 where
  pub sound : IsSound (core_in s pages) plain
  pub tables : StoresTables s pages
      (rows_table (core_in s pages) (survey (core_in s pages) plain))
      (owners_table (core_in s pages) (survey (core_in s pages) plain))

-- the pages' superblock, in a version
pub record HasSuperblockOf (version : ℕ) (s : Superblock) (pages : List (Option (List ℕ))) : Type 0 where
  pub bytes : List ℕ
  pub here : HasPage pages 0 bytes
  pub read : IsSuperblockOf version bytes s

-- the pages' superblock, in today's version
abbrev pub HasSuperblock : Superblock → List (Option (List ℕ)) → Type 0
HasSuperblock s pages = HasSuperblockOf current_version s pages

-- the image that these pages store, where they verify
abbrev pub image_in : Superblock → List (Option (List ℕ)) → Image
image_in s pages = record {
  core = core_in s pages;
  rows = rows_table (core_in s pages) (survey (core_in s pages) plain);
  owners = owners_table (core_in s pages) (survey (core_in s pages) plain);
}

-- ---- an image as the bytes of its file

-- the first n pages that bytes are cut into
abbrev pub pages_in : ℕ → List ℕ → List (Option (List ℕ))
pages_in zero bytes = []
pages_in (suc n) bytes = Some (take 4096 bytes) ∷ pages_in n (drop 4096 bytes)

-- the bytes of pages, one after another
abbrev pub bytes_in : List (Option (List ℕ)) → List ℕ
bytes_in pages = flat_map (λ p. unwrap_or p []) pages

-- The bytes are those of an image that verifies: its superblock is in its grammar and tells the length, and its pages verify.
pub record BytesVerify (bytes : List ℕ) : Type 0 where
  pub superblock : Superblock
  pub read : IsSuperblock (take 4096 bytes) superblock
  pub whole : length bytes ≡ 4096 * superblock.pages
  pub verify : PagesVerify superblock (pages_in superblock.pages bytes)

-- These are just the pages of an image: its root's body in the superblock, its tables, and its core pages. No others are.
pub record StoresImage (s : Superblock) (image : Image) (pages : List (Option (List ℕ))) : Type 0 where
  pub count : length pages ≡ s.pages
  pub superblock : HasPage pages 0 (superblock_bytes (record s { root = image.core.root }))
  pub tables : StoresTables s pages image.rows image.owners
  pub core : (p : ℕ) → s.first_core ≤ p → p < s.pages → slice_index_or pages p None ≡ slice_index_or image.core.pages p None
