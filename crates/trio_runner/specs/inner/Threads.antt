-- A library on its thread, between its turns. Cited by private functions alone.
use Rattle.std.specs.Prelude.{◌≡◌, ℕ, List, [], ◌∷◌, ◌++◌, length, map, Some, IfSome, slice_get}
use Rattle.trio_rights.specs.declared.rights.Creds.{Creds}
use Rattle.trio_desk.specs.Call.{DeskSeen}
use Rattle.trio_desk.specs.Calls.{Call}
use Rattle.trio_state.specs.State.{State}
use Rattle.trio_turn.specs.declared.seat.LibSeat.{LibSeat}
use Rattle.trio_turn.specs.Seats.{first, library, seen}
use Rattle.trio_shared.specs.declared.cell.Shared.{Shared}
use Rattle.trio_shared.specs.declared.held.Held.{Held}
use Rattle.trio_shared.specs.Left.{Leaves}
use Rattle.trio_shared.specs.Seats.{IsIdle, IsSeatOf, desk, library_of, seated}
use Rattle.trio_script.specs.declared.Lines.{Lines}
use Rattle.trio_script.specs.declared.ScriptLib.{ScriptLib}
use Rattle.trio_runner.specs.Courses.{CourseGoes, LibRan, Place}
use Rattle.trio_runner.specs.Play.{BeginsWith, Heard, Share, IsLibraryOf, creds_in}
use Rattle.trio_runner.specs.Players.{GoesOn}
use Rattle.trio_runner.specs.Rounds.{Turn, Ends, line_turns}
use Rattle.trio_runner.specs.inner.Ready.{HoldsAll}
use Rattle.trio_runner.specs.declared.threads.LibRun.{LibRun}
use Rattle.trio_runner.specs.declared.threads.LibStart.{LibStart}

-- an idle seat of this controller, and what it has seen leaves a state
pub record Sits (shared : Shared) (seat : LibSeat Held) : Type 0 where
  pub is_seat : IsSeatOf shared seat
  pub is_idle : IsIdle seat
  pub state : State
  pub left : Leaves (first seat) (seen seat) state

-- a library may go on, and what it has is all that is out to it
abbrev pub MayGoOn : DeskSeen → Share → Type 0
MayGoOn desk share = GoesOn desk share × HoldsAll desk share

-- how far a library is at its seat
abbrev pub place_at : LibSeat Held → List Call → Share → Heard → Place
place_at seat calls share told = record { going = record { seat = seated seat; calls = calls }; share = share; told = told }

-- it took these turns at its seat, whatever calls it had made before
pub record Went (shared : Shared) (turns : List Turn) (seat : LibSeat Held) (share : Share) (told : Heard) (seat' : LibSeat Held) (share' : Share) (told' : Heard) : Type 0 where
  pub goes : (calls : List Call) → (calls' : List Call) × CourseGoes (place_at seat calls share told) turns (place_at seat' calls' share' told')
  pub sits : Sits shared seat'
  pub library : library seat' ≡ library seat

-- it took a turn, and may go on
pub record TookAtSeat (shared : Shared) (turn : Turn) (seat : LibSeat Held) (share : Share) (told : Heard) (seat' : LibSeat Held) (share' : Share) (told' : Heard) : Type 0 where
  pub went : Went shared (turn ∷ []) seat share told seat' share' told'
  pub may : MayGoOn (desk seat') share'

-- it took all its turns, from what it begins with
pub record WentThrough (shared : Shared) (creds : Creds) (lines : Lines) (seat : LibSeat Held) (told : Heard) (seat' : LibSeat Held) (told' : Heard) : Type 0 where
  pub share : Share
  pub share' : Share
  pub begins : BeginsWith (library_of seat) creds lines share
  pub went : Went shared (line_turns lines ++ Ends ∷ []) seat share told seat' share' told'

-- a seat at which a library of the script begins: it has seen nothing yet
pub record Arrives (shared : Shared) (libs : List ScriptLib) (seat : LibSeat Held) : Type 0 where
  pub sits : Sits shared seat
  pub none : seen seat ≡ []
  pub creds : (first seat).creds ≡ creds_in libs

-- the seats of libraries that begin
abbrev pub seats_of : List LibStart → List (LibSeat Held)
seats_of starts = map (λ (s : LibStart). s.seat) starts

-- the library of a seat has run all its script, and was told this
pub record RanAll (shared : Shared) (l : ScriptLib) (seat seat' : LibSeat Held) (told : Heard) : Type 0 where
  pub last : Place
  pub ran : LibRan (first seat) (library_of seat) l last
  pub told_is : last.told ≡ told
  pub seat_is : last.going.seat ≡ seated seat'
  pub sits : Sits shared seat'
  pub library : library seat' ≡ library seat

-- it is one of the script, and has run all of it, where it didn't lack memory
pub record HasRun (shared : Shared) (libs : List ScriptLib) (seat : LibSeat Held) (run : LibRun) : Type 0 where
  pub lib : ScriptLib
  pub is_library : IsLibraryOf libs (library_of seat) lib
  pub ran : IfSome run.told (RanAll shared lib seat run.seat)

-- so have the libraries of these seats, in their order
pub record HaveRun (shared : Shared) (libs : List ScriptLib) (seats : List (LibSeat Held)) (runs : List LibRun) : Type 0 where
  pub count : length runs ≡ length seats
  pub each : (k : ℕ) (seat : LibSeat Held) (run : LibRun) → slice_get seats k ≡ Some seat → slice_get runs k ≡ Some run → HasRun shared libs seat run
