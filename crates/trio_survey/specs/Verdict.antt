-- Whether the pages of an image verify, and where they don't.
use Rattle.std.specs.Prelude.{◌≡◌, ◌≢◌, ℕ, ◌+◌, ◌<◌, ◌⊎◌, List, Option, None, MatchOption, slice_index_or, ⊤}
use Rattle.std.specs.Option.{option_and_then}
use Rattle.trio_rights.specs.Row.{Row}
use Rattle.trio_layout.specs.declared.refusal.Rule.TheVariants.{Tables}
use Rattle.trio_layout.specs.declared.superblock.Superblock.{Superblock}
use Rattle.trio_layout.specs.Rule.{rule_number}
use Rattle.trio_layout.specs.Superblock.{superblock_of}
use Rattle.trio_layout.specs.Core.{Location, nowhere}
use Rattle.trio_layout.specs.Survey.{plain}
use Rattle.trio_layout.specs.Sound.{IsSound, FailsAt}
use Rattle.trio_tables.specs.Stored.{shadow_bytes, owner_bytes, padded_to_pages, page_at, RowDiffers, OwnerDiffers}
use Rattle.trio_survey.specs.Stored.{core_in, image_in, HasPage, PagesVerify}
use Rattle.trio_survey.specs.declared.fault.SurveyFault.{SurveyFault}
use Rattle.trio_survey.specs.declared.fault.SurveyFault.TheVariants.{Fails, NoMemory}

-- the superblock of an image with these pages, where its first page is there and in its grammar
abbrev pub superblock_in : List (Option (List ℕ)) → Option Superblock
superblock_in pages = option_and_then superblock_of (slice_index_or pages 0 None)

-- the stored row of this inode number isn't its row in the table
pub record RowStoredOtherwise (s : Superblock) (pages : List (Option (List ℕ))) (rows : List (Option Row)) (ino : ℕ) : Type 0 where
  pub k : ℕ
  pub bytes : List ℕ
  pub table : 1 + k < s.first_owner
  pub here : HasPage pages (1 + k) bytes
  pub differs : RowDiffers rows k bytes ino

-- the stored owner of this page isn't its owner in the table
pub record OwnerStoredOtherwise (s : Superblock) (pages : List (Option (List ℕ))) (owners : List ℕ) (page : ℕ) : Type 0 where
  pub k : ℕ
  pub bytes : List ℕ
  pub table : s.first_owner + k < s.first_core
  pub here : HasPage pages (s.first_owner + k) bytes
  pub differs : OwnerDiffers owners k bytes page

-- a shadow page is absent, or it has the rows of the table, and what is behind them isn't zero
pub record ShadowPageFails (s : Superblock) (pages : List (Option (List ℕ))) (rows : List (Option Row)) : Type 0 where
  pub k : ℕ
  pub table : 1 + k < s.first_owner
  pub fault : MatchOption (slice_index_or pages (1 + k) None) ⊤
      (λ bytes. (bytes ≢ page_at k (padded_to_pages (shadow_bytes rows))) × ((ino : ℕ) → RowDiffers rows k bytes ino → ⊥))

-- an owner page is absent, or it has the owners of the table, and what is behind them isn't zero
pub record OwnerPageFails (s : Superblock) (pages : List (Option (List ℕ))) (owners : List ℕ) : Type 0 where
  pub k : ℕ
  pub table : s.first_owner + k < s.first_core
  pub fault : MatchOption (slice_index_or pages (s.first_owner + k) None) ⊤
      (λ bytes. (bytes ≢ page_at k (padded_to_pages (owner_bytes owners))) × ((page : ℕ) → OwnerDiffers owners k bytes page → ⊥))

-- The stored tables aren't these: an inode number or a page at which they differ, or neither where a page of a table fails
-- otherwise.
abbrev pub TablesFailAt : Superblock → List (Option (List ℕ)) → List (Option Row) → List ℕ → ℕ → Location → Type 0
TablesFailAt s pages rows owners ino place =
    ((place ≡ nowhere) × RowStoredOtherwise s pages rows ino)
    ⊎ ((ino ≡ 0) × (place.slot ≡ 0) × OwnerStoredOtherwise s pages owners place.page)
    ⊎ ((ino ≡ 0) × (place ≡ nowhere) × (ShadowPageFails s pages rows ⊎ OwnerPageFails s pages owners))

-- The lowest rule that fails of an image, and where: I1 or I2 of its survey, or the stored tables of a sound one.
abbrev pub ImageFailsAt : Superblock → List (Option (List ℕ)) → ℕ → ℕ → Location → Type 0
ImageFailsAt s pages rule ino place =
    FailsAt (core_in s pages) plain rule ino place
    ⊎ ((rule ≡ rule_number Tables) × IsSound (core_in s pages) plain
    × TablesFailAt s pages (image_in s pages).rows (image_in s pages).owners ino place)

-- The pages don't verify: the rule is the lowest that fails, and fails at this file and place. Want of memory says nothing.
abbrev pub IsDenied : Superblock → List (Option (List ℕ)) → SurveyFault → Type 0
IsDenied s pages (Fails rule ino page slot) =
    (PagesVerify s pages → ⊥) × ImageFailsAt s pages rule ino (record { page = page; slot = slot })
IsDenied s pages NoMemory = ⊤
