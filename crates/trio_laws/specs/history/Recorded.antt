-- The controller's state with its history beside it.
use Rattle.std.specs.Prelude.{◌≡◌, ◌⊎◌, ◌++◌, ℕ, true, List, [], length, Option, Result}
use Rattle.std.specs.Option.{option_to_list}
use Rattle.trio_rights.specs.declared.rights.Creds.{Creds}
use Rattle.trio_rights.specs.Sheets.{Sheet}
use Rattle.trio_lists.specs.Lists.{In}
use Rattle.trio_layout.specs.Image.{Image}
use Rattle.trio_state.specs.State.{OpenGrant, State, creds_of}
use Rattle.trio_state.specs.Step.{Event, Release, Settle, SetMode, CtlAnswer}
use Rattle.trio_state.specs.Kept.{Kept}
use Rattle.trio_state.specs.Run.{start}
use Rattle.trio_nodes.specs.declared.answers.ModeFault.{ModeFault}
use Rattle.trio_nodes.specs.declared.call.Call.{Call}
use Rattle.trio_nodes.specs.declared.entry.Entry.{Entry}
use Rattle.trio_nodes.specs.Handed.{HandedFile}
use Rattle.trio_nodes.specs.declared.entry.HandedPage.{HandedPage}
use Rattle.trio_nodes.specs.Nodes.{Nodes}
use Rattle.trio_nodes.specs.After.{batch_nodes}
use Rattle.trio_nodes.specs.Legal.{beginning, LegalFrom, LegalCalls, LegalChmod}
use Rattle.trio_laws.specs.history.Stands.{Stands, nodes_of, past_of}
use Rattle.trio_laws.specs.history.Entries.{Beside, bundle_handed, sheet_handed, entry_of, mode_said}
use Rattle.trio_laws.specs.history.Replays.{Replays}

-- the image that the history began with, the state that it came to, the nodes for which that stands, and the entries in order
pub record Recorded : Type 0 where
  pub first : Image
  pub state : State
  pub nodes : Nodes
  pub log : List Entry

-- each block that a grant lent is a whole page
abbrev pub LentWhole : State → Type 0
LentWhole s = (g : OpenGrant) (x : Sheet) → In g s.open_grants → In x g.blocks → length x.bytes ≡ 4096

-- What holds of all that is recorded. The state stands for the nodes; the log is legal from the nodes of the first image, and comes to
-- just these nodes, to the open grants, and to as many entries as the state counts; and it replays to the state.
pub record IsRecorded (r : Recorded) : Type 0 where
  pub kept : Kept r.state
  pub whole : LentWhole r.state
  pub stands : Stands r.state r.nodes
  pub legal : LegalFrom r.state.creds (beginning (nodes_of (start r.first r.state.creds))) r.log (past_of r.state)
  pub replays : Replays r.first r.state.creds r.log r.state

-- ---- one event more

-- a lent block that isn't marked as touched has the bytes that were lent
abbrev pub IsMarked : State → ℕ → HandedFile → Type 0
IsMarked s lib w =
    (g : OpenGrant) (p : HandedPage) → In g s.open_grants → g.lib ≡ lib → g.ino ≡ w.ino
    → In p w.blocks → (p.touched ≡ true) ⊎ In (sheet_handed p) g.blocks

-- the pages that are told are the bundle's, marked so
abbrev pub HandedFits : State → ℕ → Beside → Type 0
HandedFits s lib x = (w : HandedFile) → In w x.handed.writes → IsMarked s lib w

-- where a call is told beside a change of mode, it is replied as the answer says
abbrev pub CallFits : State → ℕ → ℕ → ℕ → Option Call → CtlAnswer → Type 0
CallFits s lib ino mode call answer =
    (said : Result (Unit {0}) ModeFault) → answer ≡ mode_said said → LegalChmod (past_of s) (creds_of s lib) ino mode said call

-- What is told beside an event belongs to it: pages to the bundle, the calls of a settle to the tree, of which they make the one
-- after it, and the call of a change of mode to its answer.
abbrev pub BesideFits : State → Beside → Event → CtlAnswer → State → Type 0
BesideFits s x (Release lib b) answer s' = (bundle_handed x.handed ≡ b) × HandedFits s lib x
BesideFits s x (Settle lib b) answer s' =
    (bundle_handed x.handed ≡ b) × HandedFits s lib x
    × LegalCalls (creds_of s lib) (nodes_of s) x.calls
    × (nodes_of s' ≡ batch_nodes (creds_of s lib) x.calls (nodes_of s))
BesideFits s x (SetMode lib ino mode) answer s' = CallFits s lib ino mode x.call answer
BesideFits s x _ answer s' = Unit {0}

-- what is recorded before the first event
abbrev pub begun : Image → List Creds → Recorded
begun image creds = record { first = image; state = start image creds; nodes = nodes_of (start image creds); log = [] }

-- what is recorded once an event came to this state: its entry stands last in the log, where it makes one
abbrev pub grown : Recorded → Beside → Event → CtlAnswer → State → Recorded
grown r x event answer s' = record {
  first = r.first;
  state = s';
  nodes = nodes_of s';
  log = r.log ++ option_to_list (entry_of r.state x event answer);
}
