-- Calls of a library as moves of the controller, and the entries that they make.
use Rattle.std.specs.Prelude.{◌≡◌, List, [], ◌∷◌, ◌++◌, map}
use Rattle.trio_rights.specs.declared.rights.LibNo.{LibNo}
use Rattle.trio_nodes.specs.declared.entry.Entry.{Entry}
use Rattle.trio_lease.specs.Shown.{Shown}
use Rattle.trio_state.specs.State.{State}
use Rattle.trio_state.specs.Run.{Move}
use Rattle.trio_nodes.specs.declared.answers.ModeFault.TheVariants.{Busy}
use Rattle.trio_desk.specs.Call.{Ask, Told, GiveBack, Settle, SetMode, Done, Settled, ModeSet, NotModeSet}
use Rattle.trio_desk.specs.Calls.{Call}
use Rattle.trio_ctl.specs.Desk.{Happens, event_of, answer_of, entries_told}

-- a call of a library as a move of the controller
abbrev pub move_of : LibNo → State → Call → State → Move
move_of lib s c s' = record { before = s; event = event_of lib c.ask; answer = answer_of c.told; after = s' }

-- calls of a library happen on the controller, one after another, and are these moves
abbrev pub AreMoves : LibNo → State → List Call → List Move → State → Type 0
AreMoves lib s [] [] s' = s' ≡ s
AreMoves lib s (c ∷ calls) (m ∷ moves) s' =
    (m ≡ move_of lib s c m.after) × Happens s lib c.ask c.told m.after × AreMoves lib m.after calls moves s'
AreMoves lib s [] (m ∷ moves) s' = ⊥
AreMoves lib s (c ∷ calls) [] s' = ⊥

-- the entries that calls of a library make, one after another, each from the state before its move
abbrev pub entries_of : LibNo → List Call → List Move → List Entry
entries_of lib (c ∷ calls) (m ∷ moves) = entries_told m.before lib c.ask c.told ++ entries_of lib calls moves
entries_of lib _ _ = []

-- a read lease is given back
abbrev pub back_call : Shown → Call
back_call lease = record { ask = GiveBack lease; told = Done }

-- A call as calls each of which is one move: the read leases that a settle or a change of mode hands back are given back before it, one
-- after another. A change of mode that finds its file busy is none: nothing changes, and the leases stay out.
abbrev pub apart : Ask → Told → List Call
apart (Settle parcel back calls) Settled = map back_call back ++ record { ask = Settle parcel [] calls; told = Settled } ∷ []
apart (SetMode ino mode back call) ModeSet = map back_call back ++ record { ask = SetMode ino mode [] call; told = ModeSet } ∷ []
apart (SetMode ino mode back call) (NotModeSet (Busy holder)) = []
apart ask told = record { ask = ask; told = told } ∷ []
