-- How the work ends by writing an image. Cited by private functions alone.
use Rattle.std.specs.Prelude.{◌≡◌, ℕ, List, [], Option, None}
use Rattle.trio_io.specs.Shelf.{Shelf, Rose, told}
use Rattle.trio_survey.specs.Stored.{BytesVerify, bytes_in}
use Rattle.trio_commands.specs.declared.status.Status.{Status}
use Rattle.trio_commands.specs.declared.status.Status.TheVariants.{Done, WriteFault, NoMemory}
use Rattle.trio_commands.specs.Lines.{write_fault_line}

-- the image of these pages was written, and its bytes verify
pub record IsSaved (out : List ℕ) (pages : List (Option (List ℕ))) (old new : Shelf) : Type 0 where
  pub written : new.held out ≡ told old.tells (bytes_in pages)
  pub verifies : BytesVerify (bytes_in pages)

-- by status: the image of these pages was written, and its text is due; or the write failed, and what OUT holds isn't told; or nothing was written
abbrev pub SaveComesTo : List ℕ → List (Option (List ℕ)) → List ℕ → Shelf → Shelf → List ℕ → Status → Type 0
SaveComesTo out pages done old new text Done = IsSaved out pages old new × (text ≡ done)
SaveComesTo out pages done old new text WriteFault =
    Rose (old.write_faults out) (new.write_faults out) × (new.held out ≡ None) × (text ≡ write_fault_line out)
SaveComesTo out pages done old new text NoMemory = (new.held ≡ old.held) × (text ≡ [])
SaveComesTo out pages done old new text _ = ⊥
