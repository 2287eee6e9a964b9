-- Loading an image from a file, and why there is none.
use Rattle.std.specs.Prelude.{◌≡◌, ℕ, ◌≤◌, List, Option, length, ⊤}
use Rattle.trio_io.specs.Shelf.{Shelf, Rose, IsTold, IsLonger}
use Rattle.trio_layout.specs.declared.superblock.Superblock.{Superblock}
use Rattle.trio_survey.specs.Stored.{pages_in, BytesVerify}
use Rattle.trio_image.specs.declared.fault.LoadFault.{LoadFault}
use Rattle.trio_image.specs.declared.fault.LoadFault.TheVariants.{ReadFault, TooLong, NoMemory}
use Rattle.trio_image.specs.Fault.{HasLength, IsLoadFault}

-- The content of a file, where it is told, is at most 33,554,432 bytes of an image that verifies, with this superblock and these pages.
pub record Loads (content : Option (List ℕ)) (s : Superblock) (pages : List (Option (List ℕ))) : Type 0 where
  pub bytes : List ℕ
  pub told : IsTold content bytes
  pub within : length bytes ≤ 33554432
  pub lengths : HasLength bytes s
  pub pages_are : pages ≡ pages_in s.pages bytes
  pub verify : BytesVerify bytes

-- The content of a file, where it is told, is at most 33,554,432 bytes that don't verify, with this as the first cause.
pub record IsRefused (content : Option (List ℕ)) (fault : LoadFault) : Type 0 where
  pub bytes : List ℕ
  pub told : IsTold content bytes
  pub within : length bytes ≤ 33554432
  pub cause : IsLoadFault bytes fault
  pub fails : BytesVerify bytes → ⊥

-- Why there is no image in the file of a name. Want of memory says nothing.
abbrev pub LoadFails : List ℕ → Shelf → Shelf → LoadFault → Type 0
LoadFails name old new ReadFault = Rose (old.read_faults name) (new.read_faults name)
LoadFails name old new TooLong = IsLonger 33554432 (old.held name)
LoadFails name old new NoMemory = ⊤
LoadFails name old new fault = IsRefused (old.held name) fault
