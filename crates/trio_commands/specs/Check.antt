-- What the words `check IMAGE` do.
use Rattle.std.specs.Prelude.{◌≡◌, ℕ, ◌≤◌, List, length}
use Rattle.trio_io.specs.Shelf.{Shelf, IsTold, OnlyReads}
use Rattle.trio_layout.specs.declared.superblock.Superblock.{Superblock}
use Rattle.trio_survey.specs.Stored.{BytesVerify, image_in, pages_in}
use Rattle.trio_image.specs.Counts.{counts_of}
use Rattle.trio_image.specs.Fault.{HasLength}
use Rattle.trio_commands.specs.declared.status.Status.{Status}
use Rattle.trio_commands.specs.declared.status.Status.TheVariants.{Done}
use Rattle.trio_commands.specs.Images.{ImageStops}
use Rattle.trio_commands.specs.Lines.{valid_line}
use Rattle.trio_commands.specs.Report.{told_counts}

-- the image was read and verifies, and the line tells its counts
pub record CheckDone (image : List ℕ) (old : Shelf) (text : List ℕ) : Type 0 where
  pub image_bytes : List ℕ
  pub image_is : IsTold (old.held image) image_bytes
  pub within : length image_bytes ≤ 33554432
  pub verifies : BytesVerify image_bytes
  pub superblock : Superblock
  pub lengths : HasLength image_bytes superblock
  pub put : text ≡ valid_line (told_counts (counts_of (image_in superblock (pages_in superblock.pages image_bytes))))

-- what it came to, by status, and the text that is then due
abbrev pub CheckComesTo : List ℕ → Shelf → Shelf → List ℕ → Status → Type 0
CheckComesTo image old new text Done = CheckDone image old text
CheckComesTo image old new text status = ImageStops image old new text status

-- what `check` came to; nothing but the count of failed reads of IMAGE may have risen
pub record Check (image : List ℕ) (old new : Shelf) (text : List ℕ) (status : Status) : Type 0 where
  pub comes_to : CheckComesTo image old new text status
  pub files : OnlyReads image old new
