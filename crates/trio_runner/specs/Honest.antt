-- What a line of an honest library comes to: a call on a file, on a directory or on a mode by the library's session, or a settle.
use Rattle.std.specs.Prelude.{◌≡◌, Bool, true, false, List, [], ◌++◌, length, MatchBool, Option, None, Some}
use Rattle.trio_rights.specs.declared.rights.LibNo.{LibNo}
use Rattle.trio_nodes.specs.declared.call.Call as call
use Rattle.trio_nodes.specs.declared.call.Call.TheVariants.{Mkdir, Create, Unlink, Rmdir, Rename, List as ListNames, Chmod, Symlink}
use Rattle.trio_desk.specs.Call.{Ask, Told, DeskSeen}
use Rattle.trio_desk.specs.Calls.{Call}
use Rattle.trio_state.specs.State.{State}
use Rattle.trio_state.specs.Run.{Move}
use Rattle.trio_ctl.specs.Desk.{Happens, desk_of}
use Rattle.trio_session.specs.Seen.{SessionSeen}
use Rattle.trio_edit_laws.specs.Calls.{MayCall}
use Rattle.trio_walk.specs.Asks.{Settles}
use Rattle.trio_walk.specs.declared.outcome.Outcome.{Outcome}
use Rattle.trio_walk.specs.declared.outcome.Outcome.TheVariants.{Replied, Busy, NoMemory}
use Rattle.trio_calls_file.specs.Asks.{FileCalled}
use Rattle.trio_calls_dir.specs.Dir.{DirCalled}
use Rattle.trio_script.specs.declared.honest.HonestLine.{HonestLine}
use Rattle.trio_script.specs.declared.honest.HonestLine.TheVariants.{Call as CallLine, Settle as SettleLine}
use Rattle.trio_report.specs.declared.answer.LineAnswer.{LineAnswer}
use Rattle.trio_report.specs.declared.answer.LineAnswer.TheVariants as answered
use Rattle.trio_runner.specs.Moves.{AreMoves, apart}

-- ---- the controller in a turn

-- the controller's state, and the calls and moves of the turn so far
pub record Noted : Type 0 where
  pub state : State
  pub calls : List Call
  pub moves : List Move

-- nothing has been called
abbrev pub unnoted : State → Noted
unnoted s = record { state = s; calls = []; moves = [] }

-- a call of the library happens, and its moves stand behind those so far
pub record Notes (lib : LibNo) (d : Noted) (ask : Ask) (told : Told) (d' : Noted) : Type 0 where
  pub happens : Happens d.state lib ask told d'.state
  pub more : List Move
  pub are_moves : AreMoves lib d.state (apart ask told) more d'.state
  pub calls_are : d'.calls ≡ d.calls ++ apart ask told
  pub moves_are : d'.moves ≡ d.moves ++ more

-- what the library sees of its desk
abbrev pub sees : LibNo → Noted → DeskSeen
sees lib d = desk_of d.state lib

-- ---- a line

-- how it is told that a call has ended; want of memory isn't
abbrev pub told_outcome : Outcome → Option LineAnswer
told_outcome (Replied reply) = Some (answered.Replied reply)
told_outcome (Busy holder) = Some answered.Busy
told_outcome NoMemory = None

-- it is a call on a directory or on a mode: it makes, removes or renames a file, lists names, or changes a mode
abbrev pub is_dir_call : call.Call → Bool
is_dir_call (Mkdir path mode) = true
is_dir_call (Create path mode) = true
is_dir_call (Unlink path) = true
is_dir_call (Rmdir path) = true
is_dir_call (Rename from to) = true
is_dir_call (ListNames path from) = true
is_dir_call (Chmod path mode) = true
is_dir_call (Symlink path text) = true
is_dir_call k = false

-- a call of a session at a desk, on a directory, on a mode or on a file: which calls of the desk it makes, and how it ends
abbrev pub SessionCalled : {D : Type 0} → (D → Ask → Told → D → Type 0) → (D → DeskSeen) → D → SessionSeen → call.Call → Outcome → D → SessionSeen → Type 0
SessionCalled called seen d s k end d' s' = MatchBool (is_dir_call k) (DirCalled called seen d s k end d' s') (FileCalled called seen d s k end d' s')

-- A call at a desk: which calls of the desk it makes, how it is told, what the session is then, and that it may go on.
pub record CallComes {D : Type 0} (called : D → Ask → Told → D → Type 0) (seen : D → DeskSeen) (d : D) (s : SessionSeen) (k : call.Call) (told : LineAnswer) (d' : D) (s' : SessionSeen) : Type 0 where
  pub end : Outcome
  pub made : SessionCalled called seen d s k end d' s'
  pub told_is : told_outcome end ≡ Some told
  pub may : MayCall (seen d') s'

-- what a line comes to at a desk; a settle is told how many calls it handed in
abbrev pub HonestComes : {D : Type 0} → (D → Ask → Told → D → Type 0) → (D → DeskSeen) → D → SessionSeen → HonestLine → LineAnswer → D → SessionSeen → Type 0
HonestComes called seen d s (CallLine k) told d' s' = CallComes called seen d s k told d' s'
HonestComes called seen d s SettleLine told d' s' = Settles called d s d' s' × (told ≡ answered.Settled (length s.calls))
