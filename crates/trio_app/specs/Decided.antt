-- The status that the words and the bytes of the files decide, where the files tell their bytes and nothing fails.
use Rattle.std.specs.Prelude.{◌≡◌, ◌⊎◌, ℕ, ◌<◌, ◌≤◌, List, None, Some, length}
use Rattle.trio_io.specs.Shelf.{Shelf, SinkSeen, Rose}
use Rattle.trio_survey.specs.OldVersion.{OldBytesVerify}
use Rattle.trio_survey.specs.Stored.{BytesVerify}
use Rattle.trio_image.specs.Made.{Fits}
use Rattle.trio_script.specs.Script.{bad_line}
use Rattle.trio_commands.specs.declared.status.Status.{Status}
use Rattle.trio_commands.specs.declared.status.Status.TheVariants.{Done, NotVerified, Usage, BadScript, TooLong}
use Rattle.trio_commands.specs.Status.{code_of}
use Rattle.trio_commands.specs.Command.{Command, new_image, check, tree, turns, run, gen, migrate, help, version, unknown}

-- a file tells its bytes, and is over its limit
pub record TellsTooLong (limit : ℕ) (name : List ℕ) (files : Shelf) : Type 0 where
  pub bytes : List ℕ
  pub tells : files.held name ≡ Some bytes
  pub longer : limit < length bytes

-- a file tells the bytes of an image that verifies
pub record TellsImage (name : List ℕ) (files : Shelf) : Type 0 where
  pub bytes : List ℕ
  pub tells : files.held name ≡ Some bytes
  pub within : length bytes ≤ 33554432
  pub verifies : BytesVerify bytes

-- a file tells bytes that don't verify
pub record TellsNoImage (name : List ℕ) (files : Shelf) : Type 0 where
  pub bytes : List ℕ
  pub tells : files.held name ≡ Some bytes
  pub within : length bytes ≤ 33554432
  pub fails : BytesVerify bytes → ⊥

-- a file tells the bytes of an image of version 1 that verifies
pub record TellsOldImage (name : List ℕ) (files : Shelf) : Type 0 where
  pub bytes : List ℕ
  pub tells : files.held name ≡ Some bytes
  pub within : length bytes ≤ 33554432
  pub verifies : OldBytesVerify bytes

-- a file tells bytes that don't verify by version 1
pub record TellsNoOldImage (name : List ℕ) (files : Shelf) : Type 0 where
  pub bytes : List ℕ
  pub tells : files.held name ≡ Some bytes
  pub within : length bytes ≤ 33554432
  pub fails : OldBytesVerify bytes → ⊥

-- a file tells a script, and this is the first line of it that is outside the grammar
pub record TellsBadLine (name : List ℕ) (files : Shelf) (line : ℕ) : Type 0 where
  pub bytes : List ℕ
  pub tells : files.held name ≡ Some bytes
  pub within : length bytes ≤ 1048576
  pub bad : bad_line bytes ≡ Some line

-- a file tells a script, and each line of it is in the grammar
pub record TellsScript (name : List ℕ) (files : Shelf) : Type 0 where
  pub bytes : List ℕ
  pub tells : files.held name ≡ Some bytes
  pub within : length bytes ≤ 1048576
  pub good : bad_line bytes ≡ None

-- what PAGES and INODES decide
abbrev pub NewDecides : ℕ → ℕ → Status → Type 0
NewDecides pages inodes Done = Fits pages inodes
NewDecides pages inodes Usage = Fits pages inodes → ⊥
NewDecides pages inodes _ = ⊥

-- what the bytes of IMAGE decide
abbrev pub ImageDecides : List ℕ → Shelf → Status → Type 0
ImageDecides image files Done = TellsImage image files
ImageDecides image files NotVerified = TellsNoImage image files
ImageDecides image files TooLong = TellsTooLong 33554432 image files
ImageDecides image files _ = ⊥

-- what the bytes of IMAGE decide, which is to be of version 1
abbrev pub MigrateDecides : List ℕ → Shelf → Status → Type 0
MigrateDecides image files Done = TellsOldImage image files
MigrateDecides image files NotVerified = TellsNoOldImage image files
MigrateDecides image files TooLong = TellsTooLong 33554432 image files
MigrateDecides image files _ = ⊥

-- what the bytes of IMAGE decide, and where it verifies, those of SCRIPT
abbrev pub InputsDecide : List ℕ → List ℕ → Shelf → Status → Type 0
InputsDecide image script files Done = TellsImage image files × TellsScript script files
InputsDecide image script files NotVerified = TellsNoImage image files
InputsDecide image script files TooLong = TellsTooLong 33554432 image files ⊎ (TellsImage image files × TellsTooLong 1048576 script files)
InputsDecide image script files BadScript = TellsImage image files × ((number : ℕ) × TellsBadLine script files number)
InputsDecide image script files _ = ⊥

-- that a command has this status is decided by its words and the bytes of its files
abbrev pub Decides : Command → Shelf → Status → Type 0
Decides (new_image out pages inodes) files status = NewDecides pages inodes status
Decides (check image) files status = ImageDecides image files status
Decides (tree image form) files status = ImageDecides image files status
Decides (turns image script out) files status = InputsDecide image script files status
Decides (run image script out workers) files status = InputsDecide image script files status
Decides (gen number count) files status = status ≡ Done
Decides (migrate image out) files status = MigrateDecides image files status
Decides help files status = status ≡ Done
Decides version files status = status ≡ Done
Decides unknown files status = status ≡ Usage

-- no count of a fault rose: no read, no write and no put failed
pub record NoneRose (old new : Shelf) (out out' : SinkSeen) : Type 0 where
  pub reads : (q : List ℕ) → Rose (old.read_faults q) (new.read_faults q) → ⊥
  pub writes : (q : List ℕ) → Rose (old.write_faults q) (new.write_faults q) → ⊥
  pub puts : Rose out.faults out'.faults → ⊥

-- The status that is decided for a command is answered, where no count rose, or memory was wanting.
abbrev pub EndsAsDecided : Command → Shelf → Shelf → SinkSeen → SinkSeen → ℕ → Type 0
EndsAsDecided command old new out out' result =
    (status : Status) → Decides command old status → NoneRose old new out out' → (result ≡ code_of status) ⊎ (result ≡ 6)
