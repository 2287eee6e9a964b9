-- What the commands that run a script on an image have in common: `turns IMAGE SCRIPT OUT` and `run IMAGE SCRIPT OUT`.
use Rattle.std.specs.Prelude.{◌≡◌, ◌≢◌, ℕ, ◌≤◌, Option, None, List}
use Rattle.trio_io.specs.Shelf.{Shelf, Rose, RisesAt, told}
use Rattle.trio_state.specs.State.{State, settled}
use Rattle.trio_survey.specs.Stored.{BytesVerify, StoresImage, bytes_in}
use Rattle.trio_ctl.specs.Ctl.{superblock_for}
use Rattle.trio_commands.specs.declared.status.Status.{Status}
use Rattle.trio_commands.specs.declared.status.Status.TheVariants.{Done, WriteFault}
use Rattle.trio_commands.specs.Images.{ImageVerifies, OutKeeps}
use Rattle.trio_commands.specs.Inputs.{ReadsScript, InputsStop}
use Rattle.trio_commands.specs.Lines.{write_fault_line}

-- the image that is settled in the last state was written to OUT, and its bytes verify
pub record WritesSettled (out : List ℕ) (last : State) (old new : Shelf) : Type 0 where
  pub pages : List (Option (List ℕ))
  pub stores : StoresImage (superblock_for (settled last).core) (settled last) pages
  pub written : new.held out ≡ told old.tells (bytes_in pages)
  pub written_verifies : BytesVerify (bytes_in pages)

-- all was done but for the write, which failed; what OUT holds isn't told then
pub record OutFails (image script out : List ℕ) (old new : Shelf) (text : List ℕ) : Type 0 where
  pub image_verifies : ImageVerifies image old
  pub script_read : ReadsScript script old
  pub rose : Rose (old.write_faults out) (new.write_faults out)
  pub untold : new.held out ≡ None
  pub put : text ≡ write_fault_line out

-- what it came to, by status, and the text that is then due; with status 0 the script was run, as `IsRun` says
abbrev pub ScriptComesTo : Type 0 → List ℕ → List ℕ → List ℕ → Shelf → Shelf → List ℕ → Status → Type 0
ScriptComesTo IsRun image script out old new text Done = IsRun
ScriptComesTo IsRun image script out old new text WriteFault = OutFails image script out old new text
ScriptComesTo IsRun image script out old new text status = InputsStop image script old new text status

-- whose counts of faults may rise
pub record FaultsMayRise (image script out : List ℕ) (old new : Shelf) : Type 0 where
  pub reads_later : (q : List ℕ) → old.read_faults q ≤ new.read_faults q
  pub reads_others : (q : List ℕ) → q ≢ image → q ≢ script → new.read_faults q ≡ old.read_faults q
  pub writes : RisesAt out old.write_faults new.write_faults
  pub serves : new.served ≡ old.served
  pub tells : new.tells ≡ old.tells

-- what such a command came to, what it left as it was, and which counts of faults may have risen
pub record OnScript (IsRun : Type 0) (image script out : List ℕ) (old new : Shelf) (text : List ℕ) (status : Status) : Type 0 where
  pub comes_to : ScriptComesTo IsRun image script out old new text status
  pub keeps : OutKeeps out old new status
  pub faults : FaultsMayRise image script out old new
