-- What the file of an image comes to.
use Rattle.std.specs.Prelude.{◌≡◌, ◌⊎◌, ℕ, ◌≤◌, List, [], length}
use Rattle.trio_io.specs.Shelf.{Shelf, Rose, IsTold, IsLonger, KeepsOthers}
use Rattle.trio_layout.specs.declared.superblock.Superblock.{Superblock}
use Rattle.trio_layout.specs.Core.{Location}
use Rattle.trio_survey.specs.OldVersion.{old_version}
use Rattle.trio_survey.specs.Stored.{BytesVerify, pages_in}
use Rattle.trio_survey.specs.Verdict.{ImageFailsAt}
use Rattle.trio_image.specs.Fault.{HasLength, IsBadLength, IsBadSuper, IsOldVersion}
use Rattle.trio_commands.specs.declared.status.Status.{Status}
use Rattle.trio_commands.specs.declared.status.Status.TheVariants.{Done, NotVerified, ReadFault, WriteFault, NoMemory, TooLong}
use Rattle.trio_commands.specs.Lines.{length_line, image_version_line, bad_superblock_line, invalid_line, read_fault_line, too_long_line}

-- the image was read and verifies
pub record ImageVerifies (image : List ℕ) (old : Shelf) : Type 0 where
  pub image_bytes : List ℕ
  pub image_is : IsTold (old.held image) image_bytes
  pub within : length image_bytes ≤ 33554432
  pub verifies : BytesVerify image_bytes

-- The bytes have a superblock, which tells their length, and this is the lowest rule that fails of their pages, at some file
-- and place.
pub record FailsRule (bytes : List ℕ) (rule : ℕ) : Type 0 where
  pub superblock : Superblock
  pub lengths : HasLength bytes superblock
  pub ino : ℕ
  pub place : Location
  pub fails : ImageFailsAt superblock (pages_in superblock.pages bytes) rule ino place

-- the first cause for which bytes are no image, and its line
abbrev pub FailsWith : List ℕ → List ℕ → Type 0
FailsWith bytes text =
    (IsBadLength bytes (length bytes) × (text ≡ length_line (length bytes)))
    ⊎ (IsOldVersion bytes × (text ≡ image_version_line old_version))
    ⊎ (IsBadSuper bytes × (text ≡ bad_superblock_line))
    ⊎ ((rule : ℕ) × FailsRule bytes rule × (text ≡ invalid_line rule))

-- the image was read and doesn't verify, and the line tells why
pub record ImageFails (image : List ℕ) (old : Shelf) (text : List ℕ) : Type 0 where
  pub image_bytes : List ℕ
  pub image_is : IsTold (old.held image) image_bytes
  pub within : length image_bytes ≤ 33554432
  pub fails : BytesVerify image_bytes → ⊥
  pub cause : FailsWith image_bytes text

-- why there is no image to work on, by status, and the text that is then due
abbrev pub ImageStops : List ℕ → Shelf → Shelf → List ℕ → Status → Type 0
ImageStops image old new text NotVerified = ImageFails image old text
ImageStops image old new text ReadFault = Rose (old.read_faults image) (new.read_faults image) × (text ≡ read_fault_line image)
ImageStops image old new text NoMemory = text ≡ []
ImageStops image old new text TooLong = IsLonger 33554432 (old.held image) × (text ≡ too_long_line image)
ImageStops image old new text _ = ⊥

-- only OUT may change, and that only where it was to be written
abbrev pub OutKeeps : List ℕ → Shelf → Shelf → Status → Type 0
OutKeeps out old new Done = KeepsOthers out old.held new.held
OutKeeps out old new WriteFault = KeepsOthers out old.held new.held
OutKeeps out old new _ = new.held ≡ old.held
