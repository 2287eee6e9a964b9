-- The log that a controller keeps beside its state.
use Rattle.std.specs.Prelude.{◌≡◌, ◌⊎◌, ℕ, ◌+◌, ◌≤◌, List, [], ◌++◌, Option, None, length}
use Rattle.std.specs.Option.{option_to_list}
use Rattle.trio_lease.specs.Bundles.{Bundled}
use Rattle.trio_layout.specs.Image.{Image}
use Rattle.trio_nodes.specs.declared.call.Call.{Call}
use Rattle.trio_nodes.specs.declared.call.Done.{Done}
use Rattle.trio_nodes.specs.declared.entry.Entry.{Entry}
use Rattle.trio_log.specs.Logged.{Logged}
use Rattle.trio_entries.specs.Handed.{handed_in}
use Rattle.trio_state.specs.Listed.{Notes}
use Rattle.trio_state.specs.Moves.{KeptUnderway, Outline}
use Rattle.trio_state.specs.State.{State, settled}
use Rattle.trio_laws.specs.OutLaws.{grants_to}
use Rattle.trio_state.specs.Step.{Event, CtlAnswer}
use Rattle.trio_laws.specs.history.Entries.{Beside, entry_of}
use Rattle.trio_laws.specs.history.Recorded.{Recorded, IsRecorded}
use Rattle.trio_laws.specs.history.Replays.{IsLibrary}
use Rattle.trio_laws.specs.history.Stands.{nodes_of}
use Rattle.trio_laws.specs.history.ToldLaws.{notes_of}
use Rattle.trio_laws.specs.session.Lent.{LentIsTrue, sizes_of}
use Rattle.trio_ctl.specs.Ctl.{Controller}
use Rattle.trio_ctl.specs.Room.{sizes_in}

-- beside a change of mode, its call is told, if it has one
abbrev pub with_call : Option Call → Beside
with_call call = record { handed = record { writes = []; holds = []; pages = []; numbers = [] }; calls = []; call = call }

-- nothing is told beside any other event that hands in no bundle
abbrev pub alone : Beside
alone = with_call None

-- beside a settle, the bundle is told as it is handed in, and the calls
abbrev pub with_calls : Bundled → List Done → Beside
with_calls b calls = record { handed = handed_in b; calls = calls; call = None }

-- beside a release, the bundle alone
abbrev pub with_bundle : Bundled → Beside
with_bundle b = with_calls b []

-- the entry that an event and its answer make, if they make one
abbrev pub entries_made : State → Beside → Event → CtlAnswer → List Entry
entries_made s x event answer = option_to_list (entry_of s x event answer)

-- A call adds to the log the entry that its event and answer make, and nothing else; it leaves the image that the controller began
-- from, and no release begins or ends in it.
pub record Logs (old : Controller) (x : Beside) (event : Event) (answer : CtlAnswer) (new : Controller) : Type 0 where
  pub log : new.log ≡ old.log ++ entries_made old.state x event answer
  pub first : new.first ≡ old.first
  pub begun : new.begun ≡ old.begun

-- what is recorded of a controller that began from this image
abbrev pub recorded : Image → State → List Entry → Recorded
recorded first s log = record { first = first; state = s; nodes = nodes_of s; log = log }

-- each open grant is of one of the libraries
abbrev pub AreMine : State → Type 0
AreMine s = (lib : ℕ) → IsLibrary s.creds lib ⊎ (grants_to s.open_grants lib ≡ [])

-- What holds of the log and of the notes: all is recorded, what has begun is closed and was given, there are places for the entries
-- that are promised, each open grant is of one of the libraries, what the open grants lent is true, the notes are of the files of
-- the settled image, and its sizes are those of the first image.
pub record HasHistory (first : Image) (s : State) (begun : List (Option Outline)) (promised : ℕ) (log : Logged) (notes : Notes) : Type 0 where
  pub all : IsRecorded (recorded first s log.entries)
  pub underway : KeptUnderway (record { state = s; begun = begun })
  pub room : length log.entries + promised ≤ log.room
  pub mine : AreMine s
  pub lent : LentIsTrue s
  pub noted : notes ≡ notes_of (settled s)
  pub sizes : sizes_of s ≡ sizes_in first
