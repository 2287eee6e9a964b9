-- What comparing the stored tables finds. Cited by private functions alone.
use Rattle.std.specs.Prelude.{◌≡◌, ◌≢◌, ℕ, ◌+◌, ◌*◌, ◌/◌, ◌<◌, ◌≤◌, ◌⊎◌, List, Option, None, MatchOption, slice_index_or, ⊤}
use Rattle.trio_rights.specs.Row.{Row}
use Rattle.trio_layout.specs.declared.refusal.Rule.TheVariants.{Tables}
use Rattle.trio_layout.specs.declared.superblock.Superblock.{Superblock}
use Rattle.trio_layout.specs.Rule.{rule_number}
use Rattle.trio_tables.specs.Stored.{shadow_bytes, owner_bytes, padded_to_pages, page_at, RowDiffers, OwnerDiffers}
use Rattle.trio_survey.specs.Stored.{StoresTables}
use Rattle.trio_survey.specs.declared.fault.SurveyFault.{SurveyFault}
use Rattle.trio_survey.specs.declared.fault.SurveyFault.TheVariants.{Fails, NoMemory}
use Rattle.trio_survey.specs.Verdict.{TablesFailAt}

-- the sizes that a superblock in its grammar has
pub record HasSizes (s : Superblock) : Type 0 where
  pub pages : s.pages ≤ 8192
  pub some : 1 ≤ s.inodes
  pub inodes : s.inodes ≤ 16384
  pub shadow : s.first_owner ≡ 1 + (32 * s.inodes + 4095) / 4096
  pub owner : s.first_core ≡ s.first_owner + (4 * s.pages + 4095) / 4096
  pub core : s.first_core < s.pages

-- the shadow page at k isn't the table's: the inode number whose row differs, or 0
abbrev pub IsRowFault : List (Option Row) → ℕ → Option (List ℕ) → ℕ → Type 0
IsRowFault rows k stored ino =
    MatchOption stored (ino ≡ 0)
    (λ bytes. (bytes ≢ page_at k (padded_to_pages (shadow_bytes rows)))
    × (RowDiffers rows k bytes ino ⊎ ((ino ≡ 0) × ((n : ℕ) → RowDiffers rows k bytes n → ⊥))))

-- the owner page at k isn't the table's: the page whose owner differs, or 0
abbrev pub IsOwnerFault : List ℕ → ℕ → Option (List ℕ) → ℕ → Type 0
IsOwnerFault owners k stored page =
    MatchOption stored (page ≡ 0)
    (λ bytes. (bytes ≢ page_at k (padded_to_pages (owner_bytes owners)))
    × (OwnerDiffers owners k bytes page ⊎ ((page ≡ 0) × ((n : ℕ) → OwnerDiffers owners k bytes n → ⊥))))

-- the same of one of the shadow pages, and of one of the owner pages
pub record HasRowFault (first_owner : ℕ) (pages : List (Option (List ℕ))) (rows : List (Option Row)) (ino : ℕ) : Type 0 where
  pub k : ℕ
  pub table : 1 + k < first_owner
  pub fault : IsRowFault rows k (slice_index_or pages (1 + k) None) ino

pub record HasOwnerFault (first_owner first_core : ℕ) (pages : List (Option (List ℕ))) (owners : List ℕ) (page : ℕ) : Type 0 where
  pub k : ℕ
  pub table : first_owner + k < first_core
  pub fault : IsOwnerFault owners k (slice_index_or pages (first_owner + k) None) page

-- the stored tables aren't these, and where
abbrev pub IsTableFault : Superblock → List (Option (List ℕ)) → List (Option Row) → List ℕ → SurveyFault → Type 0
IsTableFault s pages rows owners (Fails rule ino page slot) =
    (rule ≡ rule_number Tables) × (StoresTables s pages rows owners → ⊥) × TablesFailAt s pages rows owners ino (record { page = page; slot = slot })
IsTableFault s pages rows owners NoMemory = ⊤
