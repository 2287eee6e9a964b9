-- What the words `migrate IMAGE OUT` do.
use Rattle.std.specs.Prelude.{◌≡◌, ◌⊎◌, ℕ, ◌≤◌, List, [], None, length}
use Rattle.trio_io.specs.Shelf.{Shelf, Rose, RisesAt, IsTold, IsLonger, told}
use Rattle.trio_layout.specs.declared.superblock.Superblock.{Superblock}
use Rattle.trio_layout.specs.Core.{Location}
use Rattle.trio_layout.specs.Superblock.{current_version}
use Rattle.trio_survey.specs.OldVersion.{old_version, OldBytesVerify, OldImageFailsAt}
use Rattle.trio_survey.specs.Stored.{image_in, pages_in}
use Rattle.trio_image.specs.Counts.{counts_of}
use Rattle.trio_image.specs.Fault.{HasLengthOf, IsBadLengthOf, IsBadSuperOf, IsOfOther}
use Rattle.trio_migrate.specs.Migrated.{migrated, Migrates}
use Rattle.trio_commands.specs.declared.status.Status.{Status}
use Rattle.trio_commands.specs.declared.status.Status.TheVariants.{Done, NotVerified, ReadFault, WriteFault, NoMemory, TooLong}
use Rattle.trio_commands.specs.Images.{OutKeeps}
use Rattle.trio_commands.specs.Lines.{length_line, image_version_line, bad_superblock_line, invalid_line, migrated_line, read_fault_line, too_long_line, write_fault_line}
use Rattle.trio_commands.specs.Report.{told_counts}

-- the image was read and verifies by version 1
pub record OldImageVerifies (image : List ℕ) (old : Shelf) : Type 0 where
  pub image_bytes : List ℕ
  pub image_is : IsTold (old.held image) image_bytes
  pub within : length image_bytes ≤ 33554432
  pub verifies : OldBytesVerify image_bytes

-- The image was read and verifies by version 1. OUT has its bytes with the version changed, and these verify and have the same nodes. The
-- line tells the counts.
pub record MigrateDone (image out : List ℕ) (old new : Shelf) (text : List ℕ) : Type 0 where
  pub read : OldImageVerifies image old
  pub superblock : Superblock
  pub lengths : HasLengthOf old_version read.image_bytes superblock
  pub put : text ≡ migrated_line (told_counts (counts_of (image_in superblock (pages_in superblock.pages read.image_bytes))))
  pub written : new.held out ≡ told old.tells (migrated read.image_bytes)
  pub migrates : Migrates read.image_bytes superblock

-- The bytes have a superblock of version 1, which tells their length, and this is the lowest rule that fails of their pages by that
-- version, at some file and place.
pub record OldFailsRule (bytes : List ℕ) (rule : ℕ) : Type 0 where
  pub superblock : Superblock
  pub lengths : HasLengthOf old_version bytes superblock
  pub ino : ℕ
  pub place : Location
  pub fails : OldImageFailsAt superblock (pages_in superblock.pages bytes) rule ino place

-- the first cause for which bytes are no image of version 1, and its line
abbrev pub OldFailsWith : List ℕ → List ℕ → Type 0
OldFailsWith bytes text =
    (IsBadLengthOf old_version bytes (length bytes) × (text ≡ length_line (length bytes)))
    ⊎ (IsOfOther old_version current_version bytes × (text ≡ image_version_line current_version))
    ⊎ (IsBadSuperOf old_version current_version bytes × (text ≡ bad_superblock_line))
    ⊎ ((rule : ℕ) × OldFailsRule bytes rule × (text ≡ invalid_line rule))

-- the image was read and doesn't verify by version 1, and the line tells why
pub record OldImageFails (image : List ℕ) (old : Shelf) (text : List ℕ) : Type 0 where
  pub image_bytes : List ℕ
  pub image_is : IsTold (old.held image) image_bytes
  pub within : length image_bytes ≤ 33554432
  pub fails : OldBytesVerify image_bytes → ⊥
  pub cause : OldFailsWith image_bytes text

-- why there is no image of version 1 to work on, by status, and the text that is then due
abbrev pub OldImageStops : List ℕ → Shelf → Shelf → List ℕ → Status → Type 0
OldImageStops image old new text NotVerified = OldImageFails image old text
OldImageStops image old new text ReadFault = Rose (old.read_faults image) (new.read_faults image) × (text ≡ read_fault_line image)
OldImageStops image old new text NoMemory = text ≡ []
OldImageStops image old new text TooLong = IsLonger 33554432 (old.held image) × (text ≡ too_long_line image)
OldImageStops image old new text _ = ⊥

-- all was done but for the write, which failed; what OUT holds isn't told then
pub record MigrateWriteFault (image out : List ℕ) (old new : Shelf) (text : List ℕ) : Type 0 where
  pub read : OldImageVerifies image old
  pub rose : Rose (old.write_faults out) (new.write_faults out)
  pub untold : new.held out ≡ None
  pub put : text ≡ write_fault_line out

-- what it came to, by status, and the text that is then due
abbrev pub MigrateComesTo : List ℕ → List ℕ → Shelf → Shelf → List ℕ → Status → Type 0
MigrateComesTo image out old new text Done = MigrateDone image out old new text
MigrateComesTo image out old new text WriteFault = MigrateWriteFault image out old new text
MigrateComesTo image out old new text status = OldImageStops image old new text status

-- what `migrate` came to, what it left as it was, and which counts of faults may have risen
pub record Migrate (image out : List ℕ) (old new : Shelf) (text : List ℕ) (status : Status) : Type 0 where
  pub comes_to : MigrateComesTo image out old new text status
  pub keeps : OutKeeps out old new status
  pub reads : RisesAt image old.read_faults new.read_faults
  pub writes : RisesAt out old.write_faults new.write_faults
  pub tells : new.tells ≡ old.tells
  pub serves : new.served ≡ old.served
