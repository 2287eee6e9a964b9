-- Laws on the order of open grants.
use Rattle.std.specs.Prelude.{◌≡◌, ◌<◌, ◌≤◌, Bool, List, Some, AllPairs, slice_get, IsTrue}
use Rattle.std.specs.List.{filter}
use Rattle.trio_rights.specs.declared.rights.Creds.{Creds}
use Rattle.trio_lists.specs.Lists.{In}
use Rattle.trio_layout.specs.Image.{Image}
use Rattle.trio_state.specs.State.{OpenGrant, State}
use Rattle.trio_state.specs.Step.{Event, CtlAnswer, Step}
use Rattle.trio_state.specs.Run.{Move, start}
use Rattle.trio_laws.specs.Laws.{AnyRun}

-- the one grant was given before the other
abbrev pub CameBefore : OpenGrant → OpenGrant → Type 0
CameBefore g h = g.entry < h.entry

-- open grants stand in the rising order of their entries, which the history has
pub record IsOrdered (s : State) : Type 0 where
  pub rising : AllPairs CameBefore s.open_grants
  pub below : (g : OpenGrant) → In g s.open_grants → g.entry < s.entries

-- the first state of a run is ordered
abbrev pub OrderBegins : Type 0
OrderBegins = (image : Image) (creds : List Creds) → IsOrdered (start image creds)

-- a step from an ordered state ends in an ordered one
abbrev pub OrderStays : Type 0
OrderStays =
    (s : State) (event : Event) (answer : CtlAnswer) (s' : State)
    → IsOrdered s → Step s event answer s' → IsOrdered s'

-- so each move of a run begins and ends in an ordered state
abbrev pub GrantsAreOrdered : Type 0
GrantsAreOrdered = (run : AnyRun) (m : Move) → In m run.moves → IsOrdered m.before × IsOrdered m.after

-- of the open grants that pass a test, the first is that of the lowest entry
abbrev pub FirstIsLowest : Type 0
FirstIsLowest =
    (s : State) (passes : OpenGrant → Bool) (g h : OpenGrant)
    → IsOrdered s → slice_get (filter passes s.open_grants) 0 ≡ Some g
    → In h s.open_grants → IsTrue (passes h) → g.entry ≤ h.entry
