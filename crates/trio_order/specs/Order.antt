-- The calls of a library along a log, and one order of the calls of several libraries.
use Rattle.std.specs.Prelude.{◌≡◌, ◌==◌, List, [], ◌∷◌, ◌++◌, map}
use Rattle.std.specs.List.{filter, flat_map}
use Rattle.trio_rights.specs.declared.rights.LibNo.{LibNo}
use Rattle.trio_lease.specs.Shown.{Shown}
use Rattle.trio_nodes.specs.declared.answers.ModeFault.TheVariants.{Busy}
use Rattle.trio_nodes.specs.declared.entry.Entry.{Entry}
use Rattle.trio_desk.specs.Call.{Ask, Told, GiveBack, Settle, SetMode, Done, Settled, NotSettled, ModeSet, NotModeSet}
use Rattle.trio_desk.specs.Calls.{Call}
use Rattle.trio_state.specs.State.{State}
use Rattle.trio_state.specs.Run.{Move}
use Rattle.trio_laws.specs.history.Replays.{ReplaysFrom}
use Rattle.trio_turn.specs.Logs.{made_by}
use Rattle.trio_ctl.specs.Desk.{Happens, event_of, answer_of, entries_told}

-- ---- a library's calls along a log

-- A library's next call in a log, after the entries that it has seen. Others make some entries first; then it makes its own, if the
-- call makes any, and others come later. It finds a state that the entries up to there leave, does this, and leaves a state that they
-- leave with its own.
pub record NextCall (first : State) (lib : LibNo) (seen log : List Entry) (c : Call) (Then : List Entry → List Entry → Type 0) : Type 0 where
  pub others : List Entry
  pub later : List Entry
  pub before : State
  pub after : State
  pub log_is : log ≡ others ++ (entries_told before lib c.ask c.told ++ later)
  pub not_its_own : made_by lib.0 others ≡ []
  pub found : ReplaysFrom first (seen ++ others) before
  pub did : Happens before lib c.ask c.told after
  pub left : ReplaysFrom first ((seen ++ others) ++ entries_told before lib c.ask c.told) after
  pub rest : Then ((seen ++ others) ++ entries_told before lib c.ask c.told) later

-- These are all calls of a library along a log, in their order: they make all its entries, and those that make none have their place
-- between entries.
abbrev pub Along : State → LibNo → List Entry → List Entry → List Call → Type 0
Along first lib seen log [] = made_by lib.0 log ≡ []
Along first lib seen log (c ∷ calls) = NextCall first lib seen log c (λ seen' log'. Along first lib seen' log' calls)

-- a read lease is given back
abbrev pub back_call : Shown → Call
back_call lease = record { ask = GiveBack lease; told = Done }

-- A call as calls that make one entry at most, since a library's place in the log may lie between two entries of another's call. The
-- read leases that a settle or a change of mode gives back are given back before it, one after another; where it is refused none is, and
-- it stands as it is.
abbrev pub parts_of : Ask → Told → List Call
parts_of (Settle parcel back calls) Settled = map back_call back ++ record { ask = Settle parcel [] calls; told = Settled } ∷ []
parts_of (SetMode ino mode back call) ModeSet = map back_call back ++ record { ask = SetMode ino mode [] call; told = ModeSet } ∷ []
parts_of ask told = record { ask = ask; told = told } ∷ []

-- the same of all calls of a library, in their order
abbrev pub all_parts : List Call → List Call
all_parts calls = flat_map (λ c. parts_of c.ask c.told) calls

-- ---- an order

-- a call in an order: whose it is, and the states before and after it
pub record Happening : Type 0 where
  pub lib : LibNo
  pub call : Call
  pub before : State
  pub after : State

-- from s the calls of an order happen on the controller, one after another, and leave t
abbrev pub InOrder : State → List Happening → State → Type 0
InOrder s [] t = t ≡ s
InOrder s (h ∷ order) t = (h.before ≡ s) × Happens h.before h.lib h.call.ask h.call.told h.after × InOrder h.after order t

-- those of one library
abbrev pub calls_by : LibNo → List Happening → List Call
calls_by lib order = map (λ h. h.call) (filter (λ h. h.lib.0 == lib.0) order)

-- the entries that they make, one after another
abbrev pub entries_in : List Happening → List Entry
entries_in order = flat_map (λ h. entries_told h.before h.lib h.call.ask h.call.told) order

-- A call as a move of the controller. A settle for which memory is wanting and a change of mode that finds its file busy are none:
-- nothing changes, and read leases that were handed in stay out.
abbrev pub moves_of : LibNo → State → Ask → Told → State → List Move
moves_of lib s (Settle parcel back calls) NotSettled s' = []
moves_of lib s (SetMode ino mode back call) (NotModeSet (Busy holder)) s' = []
moves_of lib s ask told s' = record { before = s; event = event_of lib ask; answer = answer_of told; after = s' } ∷ []

-- the same of all calls of an order
abbrev pub moves_in : List Happening → List Move
moves_in order = flat_map (λ h. moves_of h.lib h.before h.call.ask h.call.told h.after) order
