-- What a script comes to: its libraries' turns on one controller, one after another.
use Rattle.std.specs.Prelude.{◌≡◌, ◌≤◌, ◌-◌, List, [], ◌∷◌, ◌++◌, length, map, Option, None, Some, slice_get, slice_index_or, slice_set}
use Rattle.trio_rights.specs.declared.rights.Creds.{Creds}
use Rattle.trio_rights.specs.declared.rights.LibNo.{LibNo}
use Rattle.trio_nodes.specs.declared.entry.Entry.{Entry}
use Rattle.trio_layout.specs.Image.{Image}
use Rattle.trio_state.specs.State.{State}
use Rattle.trio_state.specs.Run.{start, Move}
use Rattle.trio_desk.specs.Calls.{Call}
use Rattle.trio_desk.specs.Edits.{nothing as no_parcel}
use Rattle.trio_raw.specs.Has.{Has, nothing}
use Rattle.trio_session.specs.Seen.{Room, SessionSeen}
use Rattle.trio_walk.specs.Asks.{Settles}
use Rattle.trio_script.specs.declared.Lines.{Lines}
use Rattle.trio_script.specs.declared.Lines.TheVariants.{Raw, Honest}
use Rattle.trio_script.specs.declared.ScriptLib.{ScriptLib}
use Rattle.trio_report.specs.declared.answer.LineAnswer.{LineAnswer}
use Rattle.trio_report.specs.declared.report.EndAnswer.{EndAnswer}
use Rattle.trio_report.specs.declared.report.EndAnswer.TheVariants.{Settled}
use Rattle.trio_runner.specs.Line.{LineComes, EndComes}
use Rattle.trio_runner.specs.Honest.{HonestComes, Noted, Notes, sees, unnoted}
use Rattle.trio_runner.specs.Moves.{AreMoves, entries_of}
use Rattle.trio_runner.specs.Rounds.{Turn, Says, SaysHonest, Ends, Placed, turns_of}

-- what a library was told so far: the answers to its lines, and that of its end, once it has come
pub record Heard : Type 0 where
  pub answers : List LineAnswer
  pub end : Option EndAnswer

-- what a library has: a raw one the things that it was given, an honest one its session
pub data Share : Type 0 where
  Things : (has : Has) → Share
  InSession : (session : SessionSeen) → Share

-- the state of the controller and its log; and by library, in their order, what each has, and what it was told so far
pub record Players : Type 0 where
  pub state : State
  pub log : List Entry
  pub shares : List Share
  pub told : List Heard

-- a library that was told nothing yet
abbrev pub untold : Heard
untold = record { answers = []; end = None }

-- what a library has
abbrev pub share_of : Players → LibNo → Share
share_of p lib = slice_index_or p.shares (lib.0 - 1) (Things nothing)

-- what the library of this number was told, of what each was told in their order
abbrev pub heard_by : List Heard → LibNo → Heard
heard_by tolds lib = slice_index_or tolds (lib.0 - 1) untold

-- what it was told
abbrev pub told_to : Players → LibNo → Heard
told_to p lib = heard_by p.told lib

-- ---- a turn

-- the answer to a line stands behind those before
abbrev pub with_answer : Heard → LineAnswer → Heard
with_answer told answer = record told { answers = told.answers ++ answer ∷ [] }

-- the answer to the end
abbrev pub with_end : Heard → EndAnswer → Heard
with_end told end = record told { end = Some end }

-- What a turn comes to, by what its library has and was told, from the controller before it to that after it. After its end a raw
-- library has nothing; the end of an honest one is a settle, which is told how many calls it handed in.
abbrev pub TurnComes : LibNo → Turn → Noted → Share → Heard → Noted → Share → Heard → Type 0
TurnComes lib (Says line) d (Things has) told d' (Things has') told' =
    (answer : LineAnswer) × LineComes lib has line.line d'.calls answer has' × (told' ≡ with_answer told answer)
TurnComes lib (SaysHonest line) d (InSession s) told d' (InSession s') told' =
    (answer : LineAnswer) × HonestComes (Notes lib) (sees lib) d s line.line answer d' s' × (told' ≡ with_answer told answer)
TurnComes lib Ends d (Things has) told d' (Things has') told' =
    (end : EndAnswer) × EndComes has d'.calls end × (has' ≡ nothing) × (told' ≡ with_end told end)
TurnComes lib Ends d (InSession s) told d' (InSession s') told' =
    Settles (Notes lib) d s d' s' × (told' ≡ with_end told (Settled (length s.calls)))
TurnComes lib turn d share told d' share' told' = ⊥

-- a library takes a turn: its calls happen and their entries are stored, and nothing changes of what other libraries have or
-- were told
pub record TakesTurn (p : Players) (t : Placed) (moves : List Move) (p' : Players) : Type 0 where
  pub calls : List Call
  pub share' : Share
  pub told' : Heard
  pub comes :
      TurnComes t.lib t.turn (unnoted p.state) (share_of p t.lib) (told_to p t.lib)
      (record { state = p'.state; calls = calls; moves = moves }) share' told'
  pub happen : AreMoves t.lib p.state calls moves p'.state
  pub log_is : p'.log ≡ p.log ++ entries_of t.lib calls moves
  pub shares_are : p'.shares ≡ slice_set p.shares (t.lib.0 - 1) share'
  pub told_is : p'.told ≡ slice_set p.told (t.lib.0 - 1) told'

-- a turn, and what comes of those after it
pub record Next (p : Players) (t : Placed) (moves : List Move) (Rest : Players → List Move → Type 0) : Type 0 where
  pub first : List Move
  pub middle : Players
  pub others : List Move
  pub takes : TakesTurn p t first middle
  pub rest : Rest middle others
  pub moves_are : moves ≡ first ++ others

-- turns one after another, in any order of the libraries: all moves, and how it stands at the end
abbrev pub Plays : Players → List Placed → List Move → Players → Type 0
Plays p [] moves p' = (moves ≡ []) × (p' ≡ p)
Plays p (t ∷ turns) moves p' = Next p t moves (λ middle others. Plays middle turns others p')

-- the credentials of a script's libraries, in their order
abbrev pub creds_in : List ScriptLib → List Creds
creds_in libs = map (λ l. l.creds) libs

-- the library of this number in a script, from 1 on
abbrev pub IsLibraryOf : List ScriptLib → LibNo → ScriptLib → Type 0
IsLibraryOf libs lib l = (1 ≤ lib.0) × (slice_get libs (lib.0 - 1) ≡ Some l)

-- ---- a script

-- an honest library begins with an empty session, in which there is this room
abbrev pub new_session : LibNo → Creds → Room → SessionSeen
new_session lib creds room = record {
  lib = lib;
  creds = creds;
  parcel = no_parcel;
  chains = [];
  made = [];
  cleared = [];
  reads = [];
  calls = [];
  placed = 0;
  indexed = [];
  finds = 0;
  room = room;
}

-- what a library begins with, by the kind of its lines: a raw one has nothing
abbrev pub BeginsWith : LibNo → Creds → Lines → Share → Type 0
BeginsWith lib creds (Raw lines) share = share ≡ Things nothing
BeginsWith lib creds (Honest lines) share = (room : Room) × (share ≡ InSession (new_session lib creds room))

-- at first nothing is out or logged, each library begins, and none was told anything
pub record AtStart (image : Image) (libs : List ScriptLib) (p : Players) : Type 0 where
  pub state : p.state ≡ start image (creds_in libs)
  pub log : p.log ≡ []
  pub places : length p.shares ≡ length libs
  pub begins : (lib : LibNo) (l : ScriptLib) → IsLibraryOf libs lib l → BeginsWith lib l.creds l.lines (share_of p lib)
  pub told : p.told ≡ map (λ l. untold) libs

-- a script on an image, in rounds
pub record Played (image : Image) (libs : List ScriptLib) : Type 0 where
  pub first : Players
  pub begins : AtStart image libs first
  pub moves : List Move
  pub last : Players
  pub plays : Plays first (turns_of libs) moves last
