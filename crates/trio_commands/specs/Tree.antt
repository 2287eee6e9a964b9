-- What the words `tree IMAGE` and `tree IMAGE json` do.
use Rattle.std.specs.Prelude.{◌≡◌, ℕ, ◌≤◌, List, length}
use Rattle.trio_io.specs.Shelf.{Shelf, IsTold, OnlyReads}
use Rattle.trio_layout.specs.declared.superblock.Superblock.{Superblock}
use Rattle.trio_layout.specs.Tree.{TreeLine, tree_of}
use Rattle.trio_survey.specs.Stored.{BytesVerify, core_in, pages_in}
use Rattle.trio_image.specs.Fault.{HasLength}
use Rattle.trio_report.specs.Json.{tree_json}
use Rattle.trio_report.specs.Report.{tree_lines_text}
use Rattle.trio_commands.specs.declared.status.Status.{Status}
use Rattle.trio_commands.specs.declared.status.Status.TheVariants.{Done}
use Rattle.trio_commands.specs.declared.words.TreeForm.{TreeForm}
use Rattle.trio_commands.specs.declared.words.TreeForm.TheVariants.{Lines, Json}
use Rattle.trio_commands.specs.Images.{ImageStops}

-- a tree in a form
abbrev pub text_in : TreeForm → List TreeLine → List ℕ
text_in Lines tree = tree_lines_text tree
text_in Json tree = tree_json tree

-- the image was read and verifies, and its tree is told
pub record TreeDone (image : List ℕ) (form : TreeForm) (old : Shelf) (text : List ℕ) : Type 0 where
  pub image_bytes : List ℕ
  pub image_is : IsTold (old.held image) image_bytes
  pub within : length image_bytes ≤ 33554432
  pub verifies : BytesVerify image_bytes
  pub superblock : Superblock
  pub lengths : HasLength image_bytes superblock
  pub put : text ≡ text_in form (tree_of (core_in superblock (pages_in superblock.pages image_bytes)))

-- what it came to, by status, and the text that is then due
abbrev pub TreeComesTo : List ℕ → TreeForm → Shelf → Shelf → List ℕ → Status → Type 0
TreeComesTo image form old new text Done = TreeDone image form old text
TreeComesTo image form old new text status = ImageStops image old new text status

-- what `tree` came to; nothing but the count of failed reads of IMAGE may have risen
pub record Tree (image : List ℕ) (form : TreeForm) (old new : Shelf) (text : List ℕ) (status : Status) : Type 0 where
  pub comes_to : TreeComesTo image form old new text status
  pub files : OnlyReads image old new
