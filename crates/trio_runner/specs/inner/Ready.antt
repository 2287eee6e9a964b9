-- What holds between the turns of a script. Cited by private functions alone.
use Rattle.std.specs.Prelude.{◌≡◌, ⊤, ℕ, ◌+◌, List, [], ◌∷◌, ◌++◌, length, Option, None, Some}
use Rattle.trio_rights.specs.declared.rights.LibNo.{LibNo}
use Rattle.trio_lists.specs.Lists.{In}
use Rattle.trio_lease.specs.Shown.{Shown}
use Rattle.trio_lease.specs.declared.parts.HoldParts.{HoldParts}
use Rattle.trio_desk.specs.Call.{DeskSeen}
use Rattle.trio_desk.specs.Out.{LibOut, file_numbers, hold_numbers, page_numbers, ino_numbers}
use Rattle.trio_desk.specs.Calls.{Call}
use Rattle.trio_layout.specs.Image.{Image}
use Rattle.trio_state.specs.Kept.{Kept}
use Rattle.trio_state.specs.Moves.{Outline}
use Rattle.trio_state.specs.Run.{Move}
use Rattle.trio_laws.specs.history.Recorded.{LentWhole}
use Rattle.trio_ctl.specs.Ctl.{AreAsTold, Controller, IsLibrary}
use Rattle.trio_ctl.specs.Desk.{desk_of, out_of}
use Rattle.trio_raw.specs.Has.{Has, nothing, read_numbers}
use Rattle.trio_edit_laws.specs.Calls.{MayCall}
use Rattle.trio_script.specs.declared.ScriptLib.{ScriptLib}
use Rattle.trio_runner.specs.Kinds.{Suits}
use Rattle.trio_runner.specs.Players.{GoesOn}
use Rattle.trio_runner.specs.Rounds.{Placed, Turn}
use Rattle.trio_runner.specs.Honest.{unnoted}
use Rattle.trio_runner.specs.Moves.{AreMoves, entries_of}
use Rattle.trio_runner.specs.Play.{BeginsWith, Heard, Players, Plays, Share, Things, InSession, TurnComes, share_of}

-- the library has all that is out to it
pub record HasAll (out : LibOut) (has : Has) : Type 0 where
  pub writes : (w : Shown) → In w out.writes → In w.ino (file_numbers has.writes)
  pub reads : (r : Shown) → In r out.reads → In r.ino (read_numbers has.reads)
  pub holds : (h : HoldParts) → In h out.holds → In h.ino (hold_numbers has.holds)
  pub pages : (n : ℕ) → In n out.pages → In n (page_numbers has.pages)
  pub numbers : (n : ℕ) → In n out.numbers → In n (ino_numbers has.inodes)

-- what a raw library has is all that is out to it, and a session may make calls, so it has all that is out too
abbrev pub HoldsAll : DeskSeen → Share → Type 0
HoldsAll desk (Things has) = HasAll desk.out has
HoldsAll desk (InSession session) = MayCall desk session

-- Between turns the state is kept, each library has all that is out to it, and nothing is out to anybody else.
pub record IsHeld (p : Players) : Type 0 where
  pub kept : Kept p.state
  pub as_told : AreAsTold p.state
  pub whole : LentWhole p.state
  pub places : length p.shares ≡ length p.state.creds
  pub all : (lib : LibNo) → IsLibrary lib p.state → HoldsAll (desk_of p.state lib) (share_of p lib)
  pub nobody_else : (lib : LibNo) → (IsLibrary lib p.state → ⊥) → HasAll (out_of p.state lib) nothing

-- and each library may go on
pub record IsReady (p : Players) : Type 0 where
  pub held : IsHeld p
  pub goes : (lib : LibNo) → IsLibrary lib p.state → GoesOn (desk_of p.state lib) (share_of p lib)

-- ---- libraries as they are played

-- how it stands with the controller and with libraries that have these shares and were told this
abbrev pub players : Controller → List Share → List Heard → Players
players ctl shares tolds = record { state = ctl.state; log = ctl.log; shares = shares; told = tolds }

-- how it stands, the image that the controller began from, and which releases have begun and not ended
pub record Table : Type 0 where
  pub first : Image
  pub begun : List (Option Outline)
  pub players : Players

-- the same of the controller and these libraries
abbrev pub table : Controller → List Share → List Heard → Table
table ctl shares tolds = record { first = ctl.first; begun = ctl.begun; players = players ctl shares tolds }

-- what each library of a script has suits its lines
abbrev pub AllSuit : List ScriptLib → List Share → Type 0
AllSuit [] [] = ⊤
AllSuit (l ∷ libs) (share ∷ shares) = Suits l.lines share × AllSuit libs shares
AllSuit [] (share ∷ shares) = ⊥
AllSuit (l ∷ libs) [] = ⊥

-- there is a place for each library of a script, and what stands at it suits its lines
pub record AreSeated (libs : List ScriptLib) (shares : List Share) (tolds : List Heard) : Type 0 where
  pub suit : AllSuit libs shares
  pub told_count : length tolds ≡ length libs

-- each has what its library begins with, and the first has this number
abbrev pub AreNew : ℕ → List ScriptLib → List Share → Type 0
AreNew n [] [] = ⊤
AreNew n (l ∷ libs) (share ∷ shares) = BeginsWith (record { 0 = n }) l.creds l.lines share × AreNew (n + 1) libs shares
AreNew n [] (share ∷ shares) = ⊥
AreNew n (l ∷ libs) [] = ⊥

-- these turns were taken
pub record Took (a : Table) (turns : List Placed) (b : Table) : Type 0 where
  pub moves : List Move
  pub plays : Plays a.players turns moves b.players
  pub first : b.first ≡ a.first
  pub begun : b.begun ≡ a.begun
  pub ready : IsReady b.players

-- a library took a turn, and may go on
pub record TookTurn (lib : LibNo) (turn : Turn) (ctl : Controller) (share : Share) (told : Heard) (ctl' : Controller) (share' : Share) (told' : Heard) : Type 0 where
  pub calls : List Call
  pub moves : List Move
  pub comes : TurnComes lib turn (unnoted ctl.state) share told (record { state = ctl'.state; calls = calls; moves = moves }) share' told'
  pub happen : AreMoves lib ctl.state calls moves ctl'.state
  pub log_is : ctl'.log ≡ ctl.log ++ entries_of lib calls moves
  pub first : ctl'.first ≡ ctl.first
  pub begun : ctl'.begun ≡ ctl.begun
  pub goes : GoesOn (desk_of ctl'.state lib) share'

-- it did so, where a turn is left; else nothing changed
abbrev pub TookNext : LibNo → Option Turn → Controller → Share → Heard → Controller → Share → Heard → Type 0
TookNext lib None ctl share told ctl' share' told' = (ctl' ≡ ctl) × (share' ≡ share) × (told' ≡ told)
TookNext lib (Some turn) ctl share told ctl' share' told' = TookTurn lib turn ctl share told ctl' share' told'
