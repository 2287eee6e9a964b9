-- Why bytes are no image, with each cause exactly where it stands.
use Rattle.std.specs.Prelude.{◌≡◌, ◌≢◌, ℕ, ◌*◌, ◌<◌, ◌≤◌, ◌⊎◌, List, Option, length, take, ⊤}
use Rattle.trio_layout.specs.declared.superblock.Superblock.{Superblock}
use Rattle.trio_layout.specs.Superblock.{current_version, IsSuperblockOf}
use Rattle.trio_survey.specs.OldVersion.{old_version}
use Rattle.trio_survey.specs.Stored.{pages_in}
use Rattle.trio_survey.specs.declared.fault.SurveyFault.{SurveyFault}
use Rattle.trio_survey.specs.declared.fault.SurveyFault.TheVariants.{Fails as SurveyFails, NoMemory as SurveyNoMemory}
use Rattle.trio_survey.specs.Verdict.{IsDenied}
use Rattle.trio_image.specs.declared.fault.LoadFault.{LoadFault}
use Rattle.trio_image.specs.declared.fault.LoadFault.TheVariants.{Length, OldVersion, BadSuper, Fails, NoMemory}

-- the bytes begin with this superblock in a version, and are as many as it says
pub record HasLengthOf (version : ℕ) (bytes : List ℕ) (s : Superblock) : Type 0 where
  pub superblock : IsSuperblockOf version (take 4096 bytes) s
  pub length_is : length bytes ≡ 4096 * s.pages

-- the same in today's version
abbrev pub HasLength : List ℕ → Superblock → Type 0
HasLength bytes s = HasLengthOf current_version bytes s

-- fewer bytes than a page, or not as many as the superblock in a version says
abbrev pub IsBadLengthOf : ℕ → List ℕ → ℕ → Type 0
IsBadLengthOf version bytes n =
    (n ≡ length bytes)
    × ((length bytes < 4096) ⊎ ((s : Superblock) × IsSuperblockOf version (take 4096 bytes) s × (length bytes ≢ 4096 * s.pages)))

-- the same in today's version
abbrev pub IsBadLength : List ℕ → ℕ → Type 0
IsBadLength bytes n = IsBadLengthOf current_version bytes n

-- the bytes don't begin with a superblock in this version
abbrev pub IsOutside : ℕ → List ℕ → Type 0
IsOutside version bytes = (s : Superblock) → IsSuperblockOf version (take 4096 bytes) s → ⊥

-- a page at least, of which the first is a superblock in neither of two versions
abbrev pub IsBadSuperOf : ℕ → ℕ → List ℕ → Type 0
IsBadSuperOf version other bytes = (4096 ≤ length bytes) × IsOutside version bytes × IsOutside other bytes

-- the same of today's version and the one before it
abbrev pub IsBadSuper : List ℕ → Type 0
IsBadSuper bytes = IsBadSuperOf current_version old_version bytes

-- the first page is no superblock in this version, and is one in the other
abbrev pub IsOfOther : ℕ → ℕ → List ℕ → Type 0
IsOfOther version other bytes = IsOutside version bytes × ((s : Superblock) × IsSuperblockOf other (take 4096 bytes) s)

-- the bytes begin as those of an image of version 1
abbrev pub IsOldVersion : List ℕ → Type 0
IsOldVersion bytes = IsOfOther current_version old_version bytes

-- how a fault of the survey is told
abbrev pub fault_of_survey : SurveyFault → LoadFault
fault_of_survey (SurveyFails rule ino page slot) = Fails rule ino page slot
fault_of_survey SurveyNoMemory = NoMemory

-- Why pages with this superblock don't verify. Want of memory says nothing.
abbrev pub IsPagesFault : Superblock → List (Option (List ℕ)) → LoadFault → Type 0
IsPagesFault s pages (Fails rule ino page slot) = IsDenied s pages (SurveyFails rule ino page slot)
IsPagesFault s pages NoMemory = ⊤
IsPagesFault s pages fault = ⊥

-- Why the bytes are no image that verifies. Want of memory says nothing.
abbrev pub IsLoadFault : List ℕ → LoadFault → Type 0
IsLoadFault bytes (Length n) = IsBadLength bytes n
IsLoadFault bytes OldVersion = IsOldVersion bytes
IsLoadFault bytes BadSuper = IsBadSuper bytes
IsLoadFault bytes (Fails rule ino page slot) =
    (s : Superblock) × HasLength bytes s × IsDenied s (pages_in s.pages bytes) (SurveyFails rule ino page slot)
IsLoadFault bytes NoMemory = ⊤
IsLoadFault bytes fault = ⊥
