-- The calls of the desk that one Chmod makes, and how it ends.
use Rattle.std.specs.Prelude.{◌≡◌, ◌≢◌, ◌⊎◌, ℕ, IsFalse, List, [], ◌∷◌, ◌++◌, map, Option, Some}
use Rattle.trio_rights.specs.Row.{Row}
use Rattle.trio_rights.specs.declared.rights.Creds.{Creds}
use Rattle.trio_rights.specs.declared.rights.LibNo.{LibNo}
use Rattle.trio_rights.specs.declared.rights.Mode.{Mode}
use Rattle.trio_lists.specs.Lists.{In}
use Rattle.trio_nodes.specs.declared.answers.ModeFault.TheVariants.{Busy as BusyMode, NoMemory as NoModeMemory}
use Rattle.trio_nodes.specs.declared.call.Answer.TheVariants.{Done as IsDone}
use Rattle.trio_nodes.specs.declared.call.Call.{Call}
use Rattle.trio_nodes.specs.declared.call.Call.TheVariants.{Chmod}
use Rattle.trio_nodes.specs.declared.call.Reply.{Reply}
use Rattle.trio_nodes.specs.declared.call.Reply.TheVariants.{Ok as IsReplied, Denied}
use Rattle.trio_nodes.specs.Nodes.{Nodes}
use Rattle.trio_nodes.specs.Walk.{Path}
use Rattle.trio_nodes.specs.Apply.{applied, is_done, refused}
use Rattle.trio_desk.specs.Call.{Ask, DeskSeen, SetMode, Settle, Told, ModeSet, NotModeSet, NotSettled, Settled}
use Rattle.trio_desk.specs.Calls as desk_calls
use Rattle.trio_desk.specs.Calls.{Calls}
use Rattle.trio_desk.specs.Ready.{ArePossible, chmod_walk}
use Rattle.trio_session.specs.Seen.{SessionSeen, emptied}
use Rattle.trio_walk.specs.Needs.{asked, chmod_needs}
use Rattle.trio_walk.specs.Walks.{served_by, shows_root}
use Rattle.trio_walk.specs.Asks.{Called, IsRootDenied, IsUnsettled, Settles, TryEnds, grant_ask}
use Rattle.trio_walk.specs.declared.outcome.Outcome.{Outcome}
use Rattle.trio_walk.specs.declared.outcome.Outcome.TheVariants.{Replied, Busy, NoMemory}
use Rattle.trio_session.specs.Asked.{IsAlike, IsGiven, took}

-- the session with all that it was lent
abbrev pub lent_to : SessionSeen → List desk_calls.Call → SessionSeen
lent_to s given = took s (map (λ c. c.told) given)

-- ---- how far a try comes

-- It is broken off; or a check refuses the call, which is handed in at once; or the mode of this file is asked for.
pub data Comes : Type 0 where
  BreaksOff : Comes
  HandsIn : (reply : Reply) → Comes
  SetsMode : (ino : ℕ) → Comes

-- What is true of it in nodes that the session shows: the tree refuses the call so, or does it, on this file.
abbrev pub ComesSo : Nodes → Creds → Path → Mode → Comes → Type 0
ComesSo nodes creds path mode BreaksOff = Unit {0}
ComesSo nodes creds path mode (HandsIn reply) = applied nodes creds (Chmod path mode) 0 ≡ refused nodes reply
ComesSo nodes creds path mode (SetsMode ino) =
    ((applied nodes creds (Chmod path mode) 0).reply ≡ IsReplied IsDone)
    × (chmod_walk nodes creds (Chmod path mode) ≡ Some (record { ino = ino; mode = mode.0 }))

-- what is handed in at once is a refusal
abbrev pub Refuses : Comes → Type 0
Refuses (HandsIn reply) = IsFalse (is_done reply)
Refuses comes = Unit {0}

-- these grants were just what is to be asked; where the try is broken off, the first of them
abbrev pub AsksSo : Comes → List Ask → List Ask → Type 0
AsksSo BreaksOff these wanted = (rest : List Ask) × (wanted ≡ these ++ rest)
AsksSo comes these wanted = wanted ≡ these

-- ---- its last calls

-- the call is handed in alone, with this reply and the read leases
abbrev pub hand_in_ask : SessionSeen → Call → Reply → Ask
hand_in_ask s call reply = Settle s.parcel s.reads (record { call = call; reply = reply; made = 0 } ∷ [])

-- the mode is asked for with the read leases and the call
abbrev pub mode_ask : SessionSeen → ℕ → Mode → Call → Ask
mode_ask s ino mode call = SetMode ino mode.0 s.reads (Some call)

-- how a try ends by what was told of a call that is handed in
abbrev pub EndsHandedIn : Reply → Told → Outcome → Type 0
EndsHandedIn reply Settled end = end ≡ Replied reply
EndsHandedIn reply NotSettled end = end ≡ NoMemory
EndsHandedIn reply told end = ⊥

-- and by what was told of the change of mode
abbrev pub EndsModed : Told → Outcome → Type 0
EndsModed ModeSet end = end ≡ Replied (IsReplied IsDone)
EndsModed (NotModeSet (BusyMode holder)) end = end ≡ Busy holder
EndsModed (NotModeSet NoModeMemory) end = end ≡ NoMemory
EndsModed told end = ⊥

-- a try that is broken off is Busy or lacks memory, as its last grant tells
abbrev pub EndsBroken : Outcome → List desk_calls.Call → Type 0
EndsBroken (Replied answer) ungiven = ⊥
EndsBroken end ungiven = TryEnds end ungiven

-- the walk was refused without a call of the desk, or by the root's denial of its grant
abbrev pub EndsDenied : Reply → List desk_calls.Call → Type 0
EndsDenied reply ungiven = (ungiven ≡ []) ⊎ ((reply ≡ Denied) × (c : desk_calls.Call) × (ungiven ≡ c ∷ []) × IsRootDenied c)

-- How a try ends by the grant that wasn't given, if any, and the one call after the grants, by the session with all that it was lent.
abbrev pub EndsAs : SessionSeen → Path → Mode → Comes → List desk_calls.Call → List desk_calls.Call → Outcome → Type 0
EndsAs all path mode BreaksOff ungiven last end = (last ≡ []) × EndsBroken end ungiven
EndsAs all path mode (HandsIn reply) ungiven last end =
    EndsDenied reply ungiven
    × (told : Told) × (last ≡ record { ask = hand_in_ask all (Chmod path mode) reply; told = told } ∷ []) × EndsHandedIn reply told end
EndsAs all path mode (SetsMode ino) ungiven last end =
    (ungiven ≡ [])
    × (told : Told) × (last ≡ record { ask = mode_ask all ino mode (Chmod path mode); told = told } ∷ []) × EndsModed told end

-- What it leaves of the session with all that it was lent: nothing, where the call is replied; else all of it.
abbrev pub LeavesBy : SessionSeen → Outcome → SessionSeen → Type 0
LeavesBy all (Replied answer) s' = s' ≡ record (emptied all) { finds = s'.finds; room = s'.room }
LeavesBy all end s' = IsAlike all s'

-- Busy names another library: of a grant, since the session began with nothing, and of the change of mode, since all goes back with it
abbrev pub NamesOther : LibNo → Outcome → Type 0
NamesOther lib (Busy holder) = holder.lib ≢ lib
NamesOther lib end = Unit {0}

-- ---- one try

-- what is true of a try in nodes that the session shows
pub record TriedSo (creds : Creds) (s : SessionSeen) (path : Path) (mode : Mode) (comes : Comes) (grants : List Ask) (nodes : Nodes) : Type 0 where
  pub so : ComesSo nodes creds path mode comes
  pub asks : AsksSo comes grants (map grant_ask (asked (served_by s) (chmod_needs nodes creds (shows_root s) path)))

-- One try of a Chmod, from a desk and a session that has nothing to these: the grants that were given, in this order; then the one that
-- wasn't, if any; and then the settle of the refused call, or the change of mode. It notes no call that stays, so it shows the nodes that
-- are possible themselves.
pub record ChmodTried {D : Type 0} (called : D → Ask → Told → D → Type 0) (seen : D → DeskSeen) (path : Path) (mode : Mode) (d : D) (s : SessionSeen) (end : Outcome) (d' : D) (s' : SessionSeen) : Type 0 where
  pub comes : Comes
  pub refuses : Refuses comes
  pub given : List desk_calls.Call
  pub ungiven : List desk_calls.Call
  pub last : List desk_calls.Call
  pub each : (c : desk_calls.Call) → In c given → IsGiven c
  pub made : Calls called d ((given ++ ungiven) ++ last) d'
  pub ends : EndsAs (lent_to s given) path mode comes ungiven last end
  pub leaves : LeavesBy (lent_to s given) end s'
  pub others : NamesOther s.lib end
  pub shown :
      (nodes : Nodes) (rows : List (Option Row))
      → ArePossible (seen d') (lent_to s given).parcel (lent_to s given).reads nodes rows
      → TriedSo (seen d').creds s path mode comes (map (λ c. c.ask) (given ++ ungiven)) nodes

-- ---- the call

-- A Chmod: it begins with a settle, and then goes as any other call does, from an empty session: one try, and after Busy a settle and one
-- more; or there was no memory for the settle that it begins with.
pub data ChmodCalled {D : Type 0} (called : D → Ask → Told → D → Type 0) (seen : D → DeskSeen) (d : D) (s : SessionSeen) (path : Path) (mode : Mode) (end : Outcome) (d' : D) (s' : SessionSeen) : Type 0 where
  Unbegun : end ≡ NoMemory → IsUnsettled called d s d' s' → ChmodCalled called seen d s path mode end d' s'
  Begun :
      (d1 : D) (s1 : SessionSeen) → Settles called d s d1 s1 → Called called (ChmodTried called seen path mode) d1 s1 end d' s'
      → ChmodCalled called seen d s path mode end d' s'
