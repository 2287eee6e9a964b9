-- A file in pages, as it is read, and what its first page says.
use Rattle.std.specs.Prelude.{◌≡◌, ℕ, ◌/◌, ◌≤◌, List, Option, length, ⊤}
use Rattle.trio_io.specs.Shelf.{Shelf, Rose, IsTold, IsLonger}
use Rattle.trio_survey.specs.Stored.{pages_in}
use Rattle.trio_image.specs.declared.fault.LoadFault.{LoadFault}
use Rattle.trio_image.specs.declared.fault.LoadFault.TheVariants.{ReadFault, TooLong, Length, OldVersion, BadSuper, NoMemory}
use Rattle.trio_image.specs.Fault.{IsBadLengthOf, IsBadSuperOf, IsOfOther}

-- so many bytes, and the pages that they fill
pub record AreFilePages (bytes : List ℕ) (whole : List (Option (List ℕ))) (count : ℕ) : Type 0 where
  pub count_is : count ≡ length bytes
  pub whole_are : whole ≡ pages_in (length bytes / 4096) bytes

-- the content, where it is told, is at most 33,554,432 bytes, of this count and with these pages
pub record IsFileOf (content : Option (List ℕ)) (whole : List (Option (List ℕ))) (count : ℕ) : Type 0 where
  pub bytes : List ℕ
  pub told : IsTold content bytes
  pub within : length bytes ≤ 33554432
  pub are : AreFilePages bytes whole count

-- why a file isn't read
abbrev pub StopsReading : List ℕ → Shelf → Shelf → LoadFault → Type 0
StopsReading name old new ReadFault = Rose (old.read_faults name) (new.read_faults name)
StopsReading name old new TooLong = IsLonger 33554432 (old.held name)
StopsReading name old new NoMemory = ⊤
StopsReading name old new fault = ⊥

-- why bytes aren't as many as the superblock on their first page says in a version, beside another
abbrev pub IsFirstPageFault : ℕ → ℕ → List ℕ → LoadFault → Type 0
IsFirstPageFault version other bytes (Length n) = IsBadLengthOf version bytes n
IsFirstPageFault version other bytes OldVersion = IsOfOther version other bytes
IsFirstPageFault version other bytes BadSuper = IsBadSuperOf version other bytes
IsFirstPageFault version other bytes fault = ⊥
