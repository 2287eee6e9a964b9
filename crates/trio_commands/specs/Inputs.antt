-- What reading an image and a script gives, and what it leaves of the files.
use Rattle.std.specs.Prelude.{◌≡◌, ◌≢◌, ◌⊎◌, ℕ, ◌≤◌, None, Some, List, [], length}
use Rattle.trio_io.specs.Shelf.{Shelf, Rose, IsTold, IsLonger}
use Rattle.trio_layout.specs.declared.superblock.Superblock.{Superblock}
use Rattle.trio_layout.specs.Image.{Image}
use Rattle.trio_survey.specs.Stored.{BytesVerify, image_in, pages_in}
use Rattle.trio_image.specs.Fault.{HasLength}
use Rattle.trio_script.specs.Script.{bad_line, script_libs}
use Rattle.trio_script.specs.declared.ScriptLib.{ScriptLib}
use Rattle.trio_script.specs.Within.{AreWithin}
use Rattle.trio_commands.specs.declared.status.Status.{Status}
use Rattle.trio_commands.specs.declared.status.Status.TheVariants.{NotVerified, BadScript, ReadFault, NoMemory, TooLong}
use Rattle.trio_commands.specs.Images.{ImageVerifies, ImageFails}
use Rattle.trio_commands.specs.Lines.{read_fault_line, too_long_line, script_line}

-- the script was read, and this is the first line of it that is outside the grammar
pub record ReadsBadLine (script : List ℕ) (old : Shelf) (number : ℕ) : Type 0 where
  pub script_bytes : List ℕ
  pub script_is : IsTold (old.held script) script_bytes
  pub within : length script_bytes ≤ 1048576
  pub bad : bad_line script_bytes ≡ Some number

-- the script was read, and each line of it is in the grammar
pub record ReadsScript (script : List ℕ) (old : Shelf) : Type 0 where
  pub script_bytes : List ℕ
  pub script_is : IsTold (old.held script) script_bytes
  pub within : length script_bytes ≤ 1048576
  pub good : bad_line script_bytes ≡ None

-- The script was read, each line of it is in the grammar, and these are its libraries with their lines, 1 to 16 of them. Their calls
-- are within the limits.
pub record ReadsLibraries (script : List ℕ) (old : Shelf) (libs : List ScriptLib) : Type 0 where
  pub read : ReadsScript script old
  pub libs_are : libs ≡ script_libs read.script_bytes
  pub some : 1 ≤ length libs
  pub few : length libs ≤ 16
  pub limits : AreWithin libs

-- nothing but the counts of failed reads of these two names may have risen
pub record ReadsBoth (name other : List ℕ) (old new : Shelf) : Type 0 where
  pub later : (q : List ℕ) → old.read_faults q ≤ new.read_faults q
  pub others : (q : List ℕ) → q ≢ name → q ≢ other → new.read_faults q ≡ old.read_faults q
  pub writes : new.write_faults ≡ old.write_faults
  pub held : new.held ≡ old.held
  pub tells : new.tells ≡ old.tells
  pub serves : new.served ≡ old.served

-- ---- both files

-- both were read: the image verifies, and each line of the script is in the grammar
pub record InputsRead (image script : List ℕ) (old : Shelf) : Type 0 where
  pub image_bytes : List ℕ
  pub script_bytes : List ℕ
  pub image_is : IsTold (old.held image) image_bytes
  pub script_is : IsTold (old.held script) script_bytes
  pub image_within : length image_bytes ≤ 33554432
  pub script_within : length script_bytes ≤ 1048576
  pub image_verifies : BytesVerify image_bytes
  pub script_good : bad_line script_bytes ≡ None
  pub superblock : Superblock
  pub lengths : HasLength image_bytes superblock

-- the image that was read
abbrev pub image_read : {image script : List ℕ} {old : Shelf} → InputsRead image script old → Image
image_read inputs = image_in inputs.superblock (pages_in inputs.superblock.pages inputs.image_bytes)

-- the libraries of the script that was read, with their lines
abbrev pub libs_read : {image script : List ℕ} {old : Shelf} → InputsRead image script old → List ScriptLib
libs_read inputs = script_libs inputs.script_bytes

-- ---- why there is nothing to run

-- a file that should be read failed: the image, or the script once the image was read and verifies
abbrev pub InputsReadFault : List ℕ → List ℕ → Shelf → Shelf → List ℕ → Type 0
InputsReadFault image script old new text =
    (Rose (old.read_faults image) (new.read_faults image) × (text ≡ read_fault_line image))
    ⊎ (Rose (old.read_faults script) (new.read_faults script) × ImageVerifies image old × (text ≡ read_fault_line script))

-- a file is over its limit: the image, or the script once the image was read and verifies
abbrev pub InputsTooLong : List ℕ → List ℕ → Shelf → List ℕ → Type 0
InputsTooLong image script old text =
    (IsLonger 33554432 (old.held image) × (text ≡ too_long_line image))
    ⊎ (IsLonger 1048576 (old.held script) × ImageVerifies image old × (text ≡ too_long_line script))

-- why there is no run, by status, and the text that is then due
abbrev pub InputsStop : List ℕ → List ℕ → Shelf → Shelf → List ℕ → Status → Type 0
InputsStop image script old new text NotVerified = ImageFails image old text
InputsStop image script old new text ReadFault = InputsReadFault image script old new text
InputsStop image script old new text NoMemory = text ≡ []
InputsStop image script old new text TooLong = InputsTooLong image script old text
InputsStop image script old new text BadScript =
    (number : ℕ) × ImageVerifies image old × ReadsBadLine script old number × (text ≡ script_line number)
InputsStop image script old new text _ = ⊥
