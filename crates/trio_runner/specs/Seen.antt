-- What contracts see of a script that is played.
use Rattle.std.specs.Prelude.{◌≡◌, List}
use Rattle.trio_nodes.specs.declared.entry.Entry.{Entry}
use Rattle.trio_layout.specs.Image.{Image}
use Rattle.trio_state.specs.State.{State}
use Rattle.trio_script.specs.declared.ScriptLib.{ScriptLib}
use Rattle.trio_runner.specs.Play.{Heard, Played}

-- a script was played on an image: the libraries were told this, and these are the controller's state and its log at the end
pub record ScriptPlayed (image : Image) (libs : List ScriptLib) (tolds : List Heard) (s' : State) (log : List Entry) : Type 0 where
  pub played : Played image libs
  pub told : played.last.told ≡ tolds
  pub last : played.last.state ≡ s'
  pub log_is : played.last.log ≡ log
