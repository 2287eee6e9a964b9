-- Loading an image of version 1 from a file, and why there is none: as an image of today's version is loaded, with the two versions
-- exchanged.
use Rattle.std.specs.Prelude.{◌≡◌, ℕ, ◌≤◌, List, Option, length, ⊤}
use Rattle.trio_io.specs.Shelf.{Shelf, Rose, IsTold, IsLonger}
use Rattle.trio_layout.specs.declared.superblock.Superblock.{Superblock}
use Rattle.trio_layout.specs.Superblock.{current_version}
use Rattle.trio_survey.specs.OldVersion.{old_version, IsOldDenied, OldBytesVerify}
use Rattle.trio_survey.specs.Stored.{pages_in}
use Rattle.trio_survey.specs.declared.fault.SurveyFault.TheVariants.{Fails as SurveyFails}
use Rattle.trio_image.specs.declared.fault.LoadFault.{LoadFault}
use Rattle.trio_image.specs.declared.fault.LoadFault.TheVariants.{ReadFault, TooLong, Length, OldVersion, BadSuper, Fails, NoMemory}
use Rattle.trio_image.specs.Fault.{HasLengthOf, IsBadLengthOf, IsBadSuperOf, IsOfOther}

-- The content of a file, where it is told, is at most 33,554,432 bytes of an image of version 1 that verifies, with this superblock and
-- these pages.
pub record OldLoads (content : Option (List ℕ)) (s : Superblock) (pages : List (Option (List ℕ))) : Type 0 where
  pub bytes : List ℕ
  pub told : IsTold content bytes
  pub within : length bytes ≤ 33554432
  pub lengths : HasLengthOf old_version bytes s
  pub pages_are : pages ≡ pages_in s.pages bytes
  pub verify : OldBytesVerify bytes

-- Why the bytes are no image of version 1 that verifies. Want of memory says nothing.
abbrev pub IsOldLoadFault : List ℕ → LoadFault → Type 0
IsOldLoadFault bytes (Length n) = IsBadLengthOf old_version bytes n
IsOldLoadFault bytes OldVersion = IsOfOther old_version current_version bytes
IsOldLoadFault bytes BadSuper = IsBadSuperOf old_version current_version bytes
IsOldLoadFault bytes (Fails rule ino page slot) =
    (s : Superblock) × HasLengthOf old_version bytes s × IsOldDenied s (pages_in s.pages bytes) (SurveyFails rule ino page slot)
IsOldLoadFault bytes NoMemory = ⊤
IsOldLoadFault bytes fault = ⊥

-- The content of a file, where it is told, is at most 33,554,432 bytes that don't verify by version 1, with this as the first cause.
pub record IsOldRefused (content : Option (List ℕ)) (fault : LoadFault) : Type 0 where
  pub bytes : List ℕ
  pub told : IsTold content bytes
  pub within : length bytes ≤ 33554432
  pub cause : IsOldLoadFault bytes fault
  pub fails : OldBytesVerify bytes → ⊥

-- Why there is no image of version 1 in the file of a name. Want of memory says nothing.
abbrev pub OldLoadFails : List ℕ → Shelf → Shelf → LoadFault → Type 0
OldLoadFails name old new ReadFault = Rose (old.read_faults name) (new.read_faults name)
OldLoadFails name old new TooLong = IsLonger 33554432 (old.held name)
OldLoadFails name old new NoMemory = ⊤
OldLoadFails name old new fault = IsOldRefused (old.held name) fault
