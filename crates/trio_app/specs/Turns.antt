-- What the words `turns IMAGE SCRIPT OUT` do.
use Rattle.std.specs.Prelude.{◌≡◌, ℕ, List}
use Rattle.trio_io.specs.Shelf.{Shelf}
use Rattle.trio_state.specs.State.{settled}
use Rattle.trio_runner.specs.Play.{Played, creds_in}
use Rattle.trio_runner.specs.PlayLaws.{ComeToOne}
use Rattle.trio_app.specs.Alone.{NeverBusyAlone}
use Rattle.trio_app.specs.Headline.{Headline, StoredLog}
use Rattle.trio_commands.specs.declared.status.Status.{Status}
use Rattle.trio_commands.specs.Inputs.{InputsRead, image_read, libs_read}
use Rattle.trio_app.specs.OnScript.{OnScript, WritesSettled}
use Rattle.trio_app.specs.Report.{report_text}

-- all was done with the bytes of both files
pub record TurnsDone (image script out : List ℕ) (old new : Shelf) (text : List ℕ) : Type 0 where
  pub inputs : InputsRead image script old
  -- the script as it is played on the image, what holds of each of its moves, and what holds of the log that was stored
  pub played : Played (image_read inputs) (libs_read inputs)
  pub headline : Headline (image_read inputs) (creds_in (libs_read inputs)) played.moves
  pub log : StoredLog (image_read inputs) (libs_read inputs) played.moves played.last.told played.last.log played.last.state
  -- the libraries are told the same, and the same image is settled at the end, however this script is played on this image
  pub one : (other : Played (image_read inputs) (libs_read inputs)) → ComeToOne played other
  pub alone : NeverBusyAlone (libs_read inputs) played.last.told
  pub put : text ≡ report_text (libs_read inputs) played.last.told (settled played.last.state)
  pub writes : WritesSettled out played.last.state old new

-- what `turns` came to
abbrev pub Turns : List ℕ → List ℕ → List ℕ → Shelf → Shelf → List ℕ → Status → Type 0
Turns image script out old new text status = OnScript (TurnsDone image script out old new text) image script out old new text status
