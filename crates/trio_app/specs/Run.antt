-- What the words `run IMAGE SCRIPT OUT` do, and the same with WORKERS: they change nothing that is promised.
use Rattle.std.specs.Prelude.{◌≡◌, ℕ, List}
use Rattle.trio_io.specs.Shelf.{Shelf}
use Rattle.trio_nodes.specs.declared.entry.Entry.{Entry}
use Rattle.trio_layout.specs.Image.{Image}
use Rattle.trio_state.specs.State.{State, settled}
use Rattle.trio_state.specs.Run.{start}
use Rattle.trio_order.specs.Order.{moves_in}
use Rattle.trio_order.specs.OrderLaws.{OneOrder}
use Rattle.trio_script.specs.declared.ScriptLib.{ScriptLib}
use Rattle.trio_runner.specs.Play.{Heard, creds_in}
use Rattle.trio_runner.specs.RunLaws.{CallAlike, EndAlike}
use Rattle.trio_runner.specs.Runs.{ScriptRan}
use Rattle.trio_app.specs.Alone.{NeverBusyAlone}
use Rattle.trio_app.specs.Headline.{Headline, StoredLog}
use Rattle.trio_commands.specs.declared.status.Status.{Status}
use Rattle.trio_commands.specs.Inputs.{InputsRead, image_read, libs_read}
use Rattle.trio_app.specs.OnScript.{OnScript, WritesSettled}
use Rattle.trio_app.specs.Report.{report_text}

-- A script that was run on an image with a thread for each library: what each was told, the controller's state at the end, and the log
-- that it stored.
pub record RanOn (image : Image) (libs : List ScriptLib) (tolds : List Heard) (last : State) (log : List Entry) : Type 0 where
  -- each library played its lines and its end at its seat, and was told this
  pub ran : ScriptRan image libs tolds last log
  -- all calls of all libraries are one order, in which they happen one after another on one controller
  pub one : OneOrder (start image (creds_in libs)) (λ lib. (ran.last lib).going.calls) log last
  -- what holds of each move in that order, and what holds of the log that was stored
  pub headline : Headline image (creds_in libs) (moves_in one.order)
  pub stored : StoredLog image libs (moves_in one.order) tolds log last
  pub alone : NeverBusyAlone libs tolds
  -- the libraries are told the same, and the same image is settled at the end, in any other run of the script on the image in whose order
  -- the libraries call in the same sequence and the honest ones ask the same
  pub one_output :
      (tolds' : List Heard) (last' : State) (log' : List Entry) (ran' : ScriptRan image libs tolds' last' log')
      (other : OneOrder (start image (creds_in libs)) (λ lib. (ran'.last lib).going.calls) log' last')
      → CallAlike libs one.order other.order → EndAlike tolds tolds' last last'

-- all was done with the bytes of both files
pub record RunDone (image script out : List ℕ) (old new : Shelf) (text : List ℕ) : Type 0 where
  pub inputs : InputsRead image script old
  pub tolds : List Heard
  pub last : State
  pub log : List Entry
  pub ran : RanOn (image_read inputs) (libs_read inputs) tolds last log
  pub put : text ≡ report_text (libs_read inputs) tolds (settled last)
  pub writes : WritesSettled out last old new

-- what `run` came to
abbrev pub Run : List ℕ → List ℕ → List ℕ → Shelf → Shelf → List ℕ → Status → Type 0
Run image script out old new text status = OnScript (RunDone image script out old new text) image script out old new text status
