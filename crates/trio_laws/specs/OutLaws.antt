-- What a library has out, that the steps of others leave it, and that what is out is absent from home.
use Rattle.std.specs.Prelude.{◌≡◌, ◌≢◌, ◌↔◌, ◌⊎◌, ℕ, ◌==◌, List, [], map, length, Option, Some, None, slice_get, IsTrue}
use Rattle.std.specs.List.{filter}
use Rattle.trio_rights.specs.declared.rights.Creds.{Creds}
use Rattle.trio_rights.specs.declared.rights.LibNo.{LibNo}
use Rattle.trio_lists.specs.Lists.{In}
use Rattle.trio_layout.specs.Image.{Image}
use Rattle.trio_layout.specs.Range.{is_core}
use Rattle.trio_tables.specs.Out.{is_out, lib_at}
use Rattle.trio_tables.specs.Free.{numbers_where}
use Rattle.trio_state.specs.State.{OpenGrant, State}
use Rattle.trio_state.specs.Allotments.{is_library}
use Rattle.trio_state.specs.Step.{Event, CtlAnswer, Step}
use Rattle.trio_state.specs.Kept.{Kept, is_lent}
use Rattle.trio_state.specs.Given.{GivenEvent}
use Rattle.trio_state.specs.Run.{Move, start}
use Rattle.trio_laws.specs.Laws.{AnyRun, library_of}

-- what a library has out: its open grants with what each lent and a hold told, and its allotted pages and inode numbers
pub record HasOut : Type 0 where
  pub grants : List OpenGrant
  pub pages : List ℕ
  pub numbers : List ℕ

-- a grant without its checkpoint, which is the controller's
abbrev pub without_checkpoint : OpenGrant → OpenGrant
without_checkpoint g = record g { checkpoint = [] }

-- the library's open grants
abbrev pub grants_to : List OpenGrant → ℕ → List OpenGrant
grants_to grants lib = map without_checkpoint (filter (λ g. g.lib == lib) grants)

-- the numbers that are out to the library, the lowest first
abbrev pub numbers_to : List (Option LibNo) → ℕ → List ℕ
numbers_to outs lib = numbers_where (λ n. is_library lib (lib_at outs n)) 0 (length outs)

abbrev pub out_of : State → ℕ → HasOut
out_of s lib = record {
  grants = grants_to s.open_grants lib;
  pages = numbers_to s.pages_out lib;
  numbers = numbers_to s.numbers_out lib;
}

-- a step of one library leaves what another has out
abbrev pub OthersKeepOut : Type 0
OthersKeepOut =
    (s : State) (event : Event) (answer : CtlAnswer) (s' : State) (lib : ℕ)
    → Kept s → GivenEvent s event → Step s event answer s' → library_of event ≢ lib → out_of s' lib ≡ out_of s lib

-- ---- what is absent from home

-- an open write grant lent the page, or it is out by allotment
abbrev pub IsLentOrOut : State → ℕ → Type 0
IsLentOrOut s page = IsTrue (is_lent s.open_grants page) ⊎ IsTrue (is_out s.pages_out page)

-- each page that is lent for writing or out by allotment is absent from home
abbrev pub AllAway : State → Type 0
AllAway s = (page : ℕ) → IsLentOrOut s page → slice_get s.home.core.pages page ≡ Some None

-- a core page is absent from home exactly where it is lent for writing or out by allotment
abbrev pub AwayExactly : State → Type 0
AwayExactly s =
    (page : ℕ) → IsTrue (is_core s.home.core.range page) → (slice_get s.home.core.pages page ≡ Some None ↔ IsLentOrOut s page)

-- in the first state of a run all that is lent or out is away: nothing is
abbrev pub StartsAway : Type 0
StartsAway = (image : Image) (creds : List Creds) → AllAway (start image creds)

-- each step leaves it so
abbrev pub StepKeepsAway : Type 0
StepKeepsAway =
    (s : State) (event : Event) (answer : CtlAnswer) (s' : State)
    → Kept s → GivenEvent s event → Step s event answer s' → AllAway s → AllAway s'

-- no other core page is away in a kept state
abbrev pub AwayIsExact : Type 0
AwayIsExact = (s : State) → Kept s → AllAway s → AwayExactly s

-- so just these pages are away in each state that a run comes through
abbrev pub EveryStateIsAway : Type 0
EveryStateIsAway =
    (run : AnyRun)
    → AwayExactly (start run.image run.creds) × ((m : Move) → In m run.moves → AwayExactly m.before × AwayExactly m.after)
