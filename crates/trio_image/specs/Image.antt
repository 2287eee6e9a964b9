-- An image as its pages with what its first page says.
use Rattle.std.specs.Prelude.{◌≡◌, ℕ, ◌==◌, Bool, false, List, Option, None, Some, length, IsTrue}
use Rattle.std.specs.List.{list_all}
use Rattle.trio_layout.specs.declared.superblock.Superblock.{Superblock}
use Rattle.trio_layout.specs.Superblock.{current_version}
use Rattle.trio_rights.specs.Row.{Row}
use Rattle.trio_survey.specs.Stored.{image_in, HasSuperblockOf, PagesVerify}

-- what the superblock says, and the pages by number; None is an absent page
pub record ImagePages : Type 0 where
  pub superblock : Superblock
  pub pages : List (Option (List ℕ))

-- the page is there and has 4096 bytes
abbrev pub is_whole_page : Option (List ℕ) → Bool
is_whole_page None = false
is_whole_page (Some bytes) = length bytes == 4096

-- just as many pages as the superblock on the first one says in a version, each of them whole
pub record IsWholeImageOf (version : ℕ) (s : Superblock) (pages : List (Option (List ℕ))) : Type 0 where
  pub count : length pages ≡ s.pages
  pub whole : IsTrue (list_all is_whole_page pages)
  pub superblock : HasSuperblockOf version s pages

-- the same in today's version
abbrev pub IsWholeImage : Superblock → List (Option (List ℕ)) → Type 0
IsWholeImage s pages = IsWholeImageOf current_version s pages

-- a whole image that verifies
pub record IsVerified (s : Superblock) (pages : List (Option (List ℕ))) : Type 0 where
  pub whole : IsWholeImage s pages
  pub verify : PagesVerify s pages

-- the rows and the owners are those of the image that the pages store
pub record TablesAre (s : Superblock) (pages : List (Option (List ℕ))) (rows : List (Option Row)) (owners : List ℕ) : Type 0 where
  pub rows_are : rows ≡ (image_in s pages).rows
  pub owners_are : owners ≡ (image_in s pages).owners
