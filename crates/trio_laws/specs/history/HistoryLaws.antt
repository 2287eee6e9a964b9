-- The laws of histories.
use Rattle.std.specs.Prelude.{◌≡◌, ◌≢◌, ◌<◌, ◌⊎◌, ℕ, List, length, map, IsTrue}
use Rattle.trio_rights.specs.declared.rights.Creds.{Creds}
use Rattle.trio_lists.specs.Lists.{In}
use Rattle.trio_layout.specs.Image.{Image, IsFit}
use Rattle.trio_layout.specs.Verifies.{Verifies}
use Rattle.trio_state.specs.State.{OpenGrant, State, settled, creds_of}
use Rattle.trio_state.specs.Step.{Event, SetMode, CtlAnswer, Step}
use Rattle.trio_state.specs.Given.{GivenEvent}
use Rattle.trio_state.specs.Kept.{Kept}
use Rattle.trio_state.specs.Run.{start, IsWhole}
use Rattle.trio_state.specs.ImageNodes.{nodes_of as image_nodes}
use Rattle.trio_nodes.specs.declared.grant.GrantKind.TheVariants.{Write}
use Rattle.trio_nodes.specs.Nodes.{node_at}
use Rattle.trio_nodes.specs.After.{moded_nodes}
use Rattle.trio_nodes.specs.Legal.{Legal, IsWithinGrants, is_owner}
use Rattle.trio_laws.specs.Laws.{library_of}
use Rattle.trio_laws.specs.OutLaws.{out_of}
use Rattle.trio_laws.specs.Known.{known}
use Rattle.trio_nodes.specs.declared.entry.Entry.{Entry}
use Rattle.trio_nodes.specs.Tree.{IsTree}
use Rattle.trio_laws.specs.history.Entries.{Beside}
use Rattle.trio_laws.specs.history.Replays.{IsLibrary, Replays, known_from, out_in}
use Rattle.trio_laws.specs.history.Recorded.{Recorded, IsRecorded, BesideFits, begun, grown}
use Rattle.trio_laws.specs.history.Stands.{nodes_of, standing_of}

-- a controller of an image that verifies begins recorded, with no entry
abbrev pub HistoryBegins : Type 0
HistoryBegins =
    (image : Image) (creds : List Creds) → IsFit image.core → Verifies image → IsWhole image → IsRecorded (begun image creds)

-- The log of what is recorded is legal, with the credentials of the libraries, from the nodes of the first image to those for which
-- the state stands, and has as many entries as the state counts.
abbrev pub HistoryIsLegal : Type 0
HistoryIsLegal =
    (r : Recorded) → IsRecorded r
    → Legal (nodes_of (start r.first r.state.creds)) r.state.creds r.log r.nodes × (length r.log ≡ r.state.entries)

-- each step of a library that hands in what was given leaves all recorded, its entry too, where it makes one
abbrev pub HistoryGrows : Type 0
HistoryGrows =
    (r : Recorded) (x : Beside) (event : Event) (answer : CtlAnswer) (s' : State)
    → IsRecorded r → IsLibrary r.state.creds (library_of event) → GivenEvent r.state event → Step r.state event answer s'
    → BesideFits r.state x event answer s' → IsRecorded (grown r x event answer s')

-- The event changes a mode, which is the owner's to change or uid 0's, and nothing else.
pub record IsModeChange (s : State) (event : Event) (s' : State) : Type 0 where
  pub ino : ℕ
  pub mode : ℕ
  pub is : event ≡ SetMode (library_of event) ino mode
  pub owner : IsTrue (is_owner (creds_of s (library_of event)) ino (node_at (nodes_of s) ino))
  pub nodes : nodes_of s' ≡ moded_nodes ino mode (nodes_of s)

-- Isolation. Whatever a library hands in, a step of it changes the nodes within its grants alone: the content of a live file where
-- it has an open write grant on it, a name where it has one on the directory, and a file goes or moves where it holds it; kind and
-- rights stay, and what others have a grant on keeps its content and place. Or the step changes a mode.
abbrev pub StepsAreIsolated : Type 0
StepsAreIsolated =
    (r : Recorded) (event : Event) (answer : CtlAnswer) (s' : State)
    → IsRecorded r → GivenEvent r.state event → Step r.state event answer s'
    → IsWithinGrants (map standing_of r.state.open_grants) (creds_of r.state (library_of event)) (library_of event) (nodes_of r.state) (nodes_of s')
    ⊎ IsModeChange r.state event s'

-- Where no write grant is open, a state that is kept stands for just the nodes of its settled image, as they are read of it; so does
-- the first state. Page 0, which has the superblock, is no core page.
abbrev pub SettledNodes : Type 0
SettledNodes =
    (s : State) → Kept s → ((g : OpenGrant) → In g s.open_grants → g.kind ≢ Write) → 0 < s.home.core.range.first
    → image_nodes (settled s) ≡ nodes_of s

-- Each state that is kept stands for nodes that form one tree.
abbrev pub StatesAreTrees : Type 0
StatesAreTrees = (s : State) → Kept s → IsTree (nodes_of s)

-- What is known of a state to which a log replays, that is what is settled, lent and out, goes by the log, entry by entry.
abbrev pub ReplayIsKnown : Type 0
ReplayIsKnown =
    (image : Image) (creds : List Creds) (log : List Entry) (s : State)
    → IsFit image.core → Verifies image → IsWhole image
    → Replays image creds log s → known s ≡ known_from (known (start image creds)) log

-- So states to which one log replays agree in all that is known,
abbrev pub ReplaysAgree : Type 0
ReplaysAgree =
    (image : Image) (creds : List Creds) (log : List Entry) (s t : State)
    → IsFit image.core → Verifies image → IsWhole image
    → Replays image creds log s → Replays image creds log t → known s ≡ known t

-- and what a library has out is what the log says.
abbrev pub OutIsLogged : Type 0
OutIsLogged =
    (image : Image) (creds : List Creds) (log : List Entry) (s : State) (lib : ℕ)
    → IsFit image.core → Verifies image → IsWhole image
    → Replays image creds log s → out_of s lib ≡ out_in image creds log lib
