-- What the words `new OUT PAGES INODES` do.
use Rattle.std.specs.Prelude.{◌≡◌, ℕ, List, [], Option, None}
use Rattle.trio_io.specs.Shelf.{Shelf, OnlyReplaces, Rose, told}
use Rattle.trio_layout.specs.declared.superblock.Superblock.{Superblock}
use Rattle.trio_survey.specs.Stored.{BytesVerify, bytes_in}
use Rattle.trio_image.specs.Made.{Fits, IsMade, new_counts}
use Rattle.trio_commands.specs.declared.status.Status.{Status}
use Rattle.trio_commands.specs.declared.status.Status.TheVariants.{Done, Usage, WriteFault, NoMemory}
use Rattle.trio_commands.specs.Images.{OutKeeps}
use Rattle.trio_commands.specs.Lines.{made_line, usage_line, write_fault_line}

-- a new image of so many pages and inode numbers was written
pub record NewDone (out : List ℕ) (pages inodes : ℕ) (old new : Shelf) (text : List ℕ) : Type 0 where
  pub fits : Fits pages inodes
  pub superblock : Superblock
  pub image : List (Option (List ℕ))
  pub made : IsMade pages inodes superblock image
  pub put : text ≡ made_line pages inodes (new_counts pages inodes).free
  pub written : new.held out ≡ told old.tells (bytes_in image)
  pub written_verifies : BytesVerify (bytes_in image)

-- all was done but for the write, which failed; what OUT holds isn't told then
pub record NewWriteFault (out : List ℕ) (pages inodes : ℕ) (old new : Shelf) (text : List ℕ) : Type 0 where
  pub fits : Fits pages inodes
  pub rose : Rose (old.write_faults out) (new.write_faults out)
  pub untold : new.held out ≡ None
  pub put : text ≡ write_fault_line out

-- what it came to, by status, and the text that is then due
abbrev pub NewComesTo : List ℕ → ℕ → ℕ → Shelf → Shelf → List ℕ → Status → Type 0
NewComesTo out pages inodes old new text Done = NewDone out pages inodes old new text
NewComesTo out pages inodes old new text Usage = (Fits pages inodes → ⊥) × (text ≡ usage_line)
NewComesTo out pages inodes old new text WriteFault = NewWriteFault out pages inodes old new text
NewComesTo out pages inodes old new text NoMemory = text ≡ []
NewComesTo out pages inodes old new text _ = ⊥

-- what `new` came to, and what it left as it was; nothing but OUT and the count of its failed writes may have changed
pub record New (out : List ℕ) (pages inodes : ℕ) (old new : Shelf) (text : List ℕ) (status : Status) : Type 0 where
  pub comes_to : NewComesTo out pages inodes old new text status
  pub keeps : OutKeeps out old new status
  pub files : OnlyReplaces out old new
