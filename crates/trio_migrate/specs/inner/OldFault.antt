-- Why pages don't verify by version 1. Cited by private functions alone.
use Rattle.std.specs.Prelude.{ℕ, List, Option, ⊤}
use Rattle.trio_layout.specs.declared.superblock.Superblock.{Superblock}
use Rattle.trio_survey.specs.OldVersion.{IsOldDenied}
use Rattle.trio_survey.specs.declared.fault.SurveyFault.TheVariants.{Fails as SurveyFails}
use Rattle.trio_image.specs.declared.fault.LoadFault.{LoadFault}
use Rattle.trio_image.specs.declared.fault.LoadFault.TheVariants.{Fails, NoMemory}

-- Why pages with this superblock don't verify by version 1. Want of memory says nothing.
abbrev pub IsOldPagesFault : Superblock → List (Option (List ℕ)) → LoadFault → Type 0
IsOldPagesFault s pages (Fails rule ino page slot) = IsOldDenied s pages (SurveyFails rule ino page slot)
IsOldPagesFault s pages NoMemory = ⊤
IsOldPagesFault s pages fault = ⊥
