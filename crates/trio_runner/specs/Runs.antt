-- A script that was run with a thread for each library: each is at its seat, and they share one controller.
use Rattle.std.specs.Prelude.{◌≡◌, List, length}
use mathlib.Core.List.{IsPrefix}
use Rattle.trio_rights.specs.declared.rights.LibNo.{LibNo}
use Rattle.trio_nodes.specs.declared.entry.Entry.{Entry}
use Rattle.trio_layout.specs.Image.{Image}
use Rattle.trio_state.specs.State.{State}
use Rattle.trio_turn.specs.Logs.{made_by}
use Rattle.trio_turn.specs.Origins.{Origin}
use Rattle.trio_shared.specs.Left.{Leaves}
use Rattle.trio_script.specs.declared.ScriptLib.{ScriptLib}
use Rattle.trio_runner.specs.Courses.{LibRan, Place}
use Rattle.trio_runner.specs.Play.{Heard, IsLibraryOf, creds_in, heard_by}

-- what the controller begins from
abbrev pub origin_in : Image → List ScriptLib → Origin
origin_in image libs = record { image = image; creds = creds_in libs }

-- The log begins with what a library's seat has seen, and has of the library just the entries that its seat has seen.
pub record IsSeenIn (log : List Entry) (lib : LibNo) (seen : List Entry) : Type 0 where
  pub begins : IsPrefix seen log
  pub own : made_by lib.0 log ≡ made_by lib.0 seen

-- Each library has run its script, and was told this; the log of the controller has what all their seats have seen, and leaves this
-- state.
pub record ScriptRan (image : Image) (libs : List ScriptLib) (tolds : List Heard) (s' : State) (log : List Entry) : Type 0 where
  pub last : LibNo → Place
  pub ran : (lib : LibNo) (l : ScriptLib) → IsLibraryOf libs lib l → LibRan (origin_in image libs) lib l (last lib)
  pub told : (lib : LibNo) (l : ScriptLib) → IsLibraryOf libs lib l → (last lib).told ≡ heard_by tolds lib
  pub told_count : length tolds ≡ length libs
  pub seen : (lib : LibNo) (l : ScriptLib) → IsLibraryOf libs lib l → IsSeenIn log lib (last lib).going.seat.seen
  pub left : Leaves (origin_in image libs) log s'
