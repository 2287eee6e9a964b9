-- The laws of the controller, as they are to be read beside the claim: from every image that verifies, for every list of grants,
-- allotments, give backs, releases, settles and changes of mode with any bytes, the settled image verifies after each step, as
-- one connected tree with each page owned once and rights as in the shadow table, and a release is accepted exactly when the
-- whole image with its bytes would be sound by an allowed change, while otherwise what the checkpoint covers returns byte for
-- byte.
use Rattle.std.specs.Prelude.{◌≡◌, ◌≢◌, ◌↔◌, ◌⊎◌, ℕ, List, map, [], ◌++◌, Option, Some, None, Ok, if◌then◌else◌, slice_get, IsTrue, IsFalse}
use Rattle.trio_rights.specs.declared.kind.Kind.{Kind}
use Rattle.trio_rights.specs.ByKind.{is_directory}
use Rattle.trio_rights.specs.declared.rights.Creds.{Creds}
use Rattle.trio_rights.specs.Row.{Row}
use Rattle.trio_nodes.specs.declared.grant.GrantKind.TheVariants.{Write, Hold}
use Rattle.trio_lists.specs.Lists.{In, is_among}
use Rattle.trio_layout.specs.Body.{guard_in}
use Rattle.trio_layout.specs.Core.{page_of}
use Rattle.trio_layout.specs.Entries.{Listed}
use Rattle.trio_layout.specs.Survey.{Met, plain, FileRead, file_of, survey}
use Rattle.trio_rights.specs.Sheets.{sheet_numbers}
use Rattle.trio_layout.specs.Image.{Image, IsFit, row_at, settled_body}
use Rattle.trio_layout.specs.Verifies.{Verifies}
use Rattle.trio_state.specs.State.{State, settled, creds_of, covered}
use Rattle.trio_rights.specs.Bundle.{Written, Bundle, is_written}
use Rattle.trio_layout.specs.Accept.{is_accepted, next}
use Rattle.trio_state.specs.Bundles.{parted_hold, uncovered, refused_image, has_all}
use Rattle.trio_state.specs.Tells.{Why, Tells}
use Rattle.trio_state.specs.Step.{Event, Release, Settle, SetMode, Grant, CtlAnswer, Accepted, Refused, NotClosed, NoMemory, Does, Step, Granted, ModeSet}
pub use Rattle.trio_state.specs.Step.{library_of}
use Rattle.trio_state.specs.Kept.{Kept}
use Rattle.trio_state.specs.Given.{HasGrant, GivenTo, GivenEvent}
use Rattle.trio_state.specs.Run.{start, IsWhole, Move, Trace}

-- ---- runs

-- A run from an image that verifies, with all its pages there: moves of any events that hand in what was given, with any
-- bytes.
pub record AnyRun : Type 0 where
  pub image : Image
  pub creds : List Creds
  pub moves : List Move
  pub fit : IsFit image.core
  pub verifies : Verifies image
  pub whole : IsWhole image
  pub trace : Trace (start image creds) moves

-- each state that a run comes through, the first one too, is kept, and so its settled image verifies
abbrev pub EveryStateIsKept : Type 0
EveryStateIsKept =
    (run : AnyRun) → Kept (start run.image run.creds) × ((m : Move) → In m run.moves → Kept m.before × Kept m.after)

-- a step from a kept state, of an event that hands in what was given
pub record IsMove (m : Move) : Type 0 where
  pub kept : Kept m.before
  pub given : GivenEvent m.before m.event
  pub step : Step m.before m.event m.answer m.after

-- each move of a run is one; so what is said below of steps from kept states holds in every run
abbrev pub EveryMoveIsAStep : Type 0
EveryMoveIsAStep = (run : AnyRun) (m : Move) → In m run.moves → IsMove m

-- ---- releases

-- the answer is a verdict: neither want of memory, nor that the bundle is not closed
abbrev pub IsJudged : CtlAnswer → Type 0
IsJudged answer = (answer ≢ NoMemory) × ((n : ℕ) → answer ≢ NotClosed n)

-- the answer is a refusal, for some cause
abbrev pub IsRefusal : CtlAnswer → Type 0
IsRefusal answer = (why : Why) × (answer ≡ Refused why)

-- How a release ends. A bundle that is not closed comes back with nothing changed, and any bundle may for want of memory. One
-- that is judged is closed; it is accepted exactly where it is acceptable in the image that is settled then, and refused exactly
-- where it is not, and then the next image is settled, or the one of a refusal, which tells a cause that it may tell.
pub record IsVerdict (s : State) (lib : ℕ) (b : Bundle) (answer : CtlAnswer) (s' : State) : Type 0 where
  pub parted : (n : ℕ) → answer ≡ NotClosed n → (parted_hold s lib b ≡ Some n) × (s' ≡ s)
  pub no_memory : answer ≡ NoMemory → s' ≡ s
  pub closed : IsJudged answer → parted_hold s lib b ≡ None
  pub accepted : IsJudged answer → (answer ≡ Accepted ↔ IsTrue (is_accepted (settled s) (creds_of s lib) b))
  pub refused : IsJudged answer → (IsRefusal answer ↔ IsFalse (is_accepted (settled s) (creds_of s lib) b))
  pub stands : answer ≡ Accepted → settled s' ≡ next (settled s) b
  pub returns : IsRefusal answer → settled s' ≡ refused_image (settled s) b
  pub tells : (why : Why) → answer ≡ Refused why → Tells s lib b why

-- each release of a run ends so
abbrev pub EveryReleaseIsJudged : Type 0
EveryReleaseIsJudged =
    (run : AnyRun) (m : Move) (lib : ℕ) (b : Bundle)
    → In m run.moves → m.event ≡ Release lib b → IsVerdict m.before lib b m.answer m.after

-- What stands in the settled image after a refusal: all as before, but for the lent blocks of the bundle's written files
-- that aren't covered, and its allotted pages. The pages that the checkpoints of its written files cover are not among
-- these, a guarded file's blocks too: they are as before, byte for byte. Which files are guarded is settled before.
pub record IsBack (s : State) (b : Bundle) (s' : State) : Type 0 where
  pub pages :
      (page : ℕ) → (In page (sheet_numbers (uncovered (settled s) b ++ b.pages)) → ⊥)
      → slice_get (settled s').core.pages page ≡ slice_get (settled s).core.pages page
  pub covered :
      (w : Written) (page : ℕ) → In w b.writes
      → In page (sheet_numbers (covered Write w.kind (guard_in (settled_body (settled s) w.ino)) w.index w.blocks))
      → page_of (settled s').core page ≡ page_of (settled s).core page
  pub root : (settled s').core.root ≡ (settled s).core.root
  pub bodies : (n : ℕ) (r : Row) → row_at (settled s) n ≡ Some r → settled_body (settled s') n ≡ settled_body (settled s) n
  pub files : survey (settled s').core plain ≡ survey (settled s).core plain
  pub rows : (settled s').rows ≡ (settled s).rows
  pub owners : (settled s').owners ≡ (settled s).owners

-- after a refusal it stands so
abbrev pub RefusalKeeps : Type 0
RefusalKeeps =
    (s : State) (lib : ℕ) (b : Bundle) (why : Why) (s' : State)
    → Kept s → GivenTo s lib b → Step s (Release lib b) (Refused why) s' → IsBack s b s'

-- ---- no call is stuck

-- a settle is answered where the bundle is all that its library has out, and acceptable
abbrev pub MayEnd : State → Event → Type 0
MayEnd s (Settle lib b) = IsTrue (has_all s lib b) × IsTrue (is_accepted (settled s) (creds_of s lib) b)
MayEnd s _ = Unit {0}

-- in every kept state each call of what was given can be answered, and not for want of memory
abbrev pub NeverStuck : Type 0
NeverStuck =
    (s : State) (event : Event)
    → Kept s → GivenEvent s event → MayEnd s event → (answer : CtlAnswer) × (s' : State) × (answer ≢ NoMemory) × Does s event answer s'

-- ---- the files of others

-- an entry of a directory but for the body in its slot
abbrev pub entry_only : Listed → Listed
entry_only l = record { entry = l.entry; page = l.page; slot = l.slot; body = [] }

-- the pages of a file that have no slots: the index pages, and the blocks of what is no directory
abbrev pub plain_pages : Kind → FileRead → List ℕ
plain_pages kind f = if is_directory kind then f.chain.index else f.chain.index ++ f.chain.blocks

-- The file of a number is the same in both images: met at its place, with its kind, body, row and chain, with the same bytes in
-- each page without slots and, in a directory, with the same entries but for the bodies of its children.
pub record IsUntouched (before after : Image) (n : ℕ) : Type 0 where
  pub met : Met
  pub file_was : FileRead
  pub file_is : FileRead
  pub number : met.ino ≡ n
  pub stood : In met (survey before.core plain)
  pub stands : In met (survey after.core plain)
  pub read_was : file_of before.core met ≡ Ok file_was
  pub read_is : file_of after.core met ≡ Ok file_is
  pub body : file_is.body ≡ file_was.body
  pub chain : file_is.chain ≡ file_was.chain
  pub pages :
      (page : ℕ) → In page (plain_pages met.kind file_was)
      → page_of after.core page ≡ page_of before.core page
  pub entries : map entry_only file_is.entries ≡ map entry_only file_was.entries
  pub settled_bodies : settled_body after n ≡ settled_body before n
  pub row : row_at after n ≡ row_at before n

-- a live file that an accepted bundle neither holds nor writes is the same after it
abbrev pub OthersUntouched : Type 0
OthersUntouched =
    (s : State) (lib : ℕ) (creds : Creds) (b : Bundle) (n : ℕ) (r : Row)
    → Kept s → GivenTo s lib b → IsTrue (is_accepted (settled s) creds b)
    → row_at s.home n ≡ Some r → IsFalse (is_among n b.holds) → IsFalse (is_written b n)
    → IsUntouched (settled s) (next (settled s) b) n

-- the library has no open write grant and no hold on the file
abbrev pub HasNone : State → ℕ → ℕ → Type 0
HasNone s lib n = (HasGrant s lib n Write → ⊥) × (HasGrant s lib n Hold → ⊥)

-- the event gets no write grant on the file by this answer, and doesn't change its mode
abbrev pub IsElsewhere : ℕ → Event → CtlAnswer → Type 0
IsElsewhere n (Grant lib ino kind) answer = kind ≡ Write → (children : ℕ) → answer ≡ Granted children → ino ≢ n
IsElsewhere n (SetMode lib ino mode) answer = answer ≡ ModeSet → ino ≢ n
IsElsewhere n _ answer = Unit {0}

-- A live file on which a library has no open write grant and no hold is the same after each event of that library that is
-- elsewhere. (A write grant on the file itself takes blocks that its checkpoint doesn't cover out of the settled image until they come
-- back.)
abbrev pub EveryStepIsIsolated : Type 0
EveryStepIsIsolated =
    (s : State) (event : Event) (answer : CtlAnswer) (s' : State) (n : ℕ) (r : Row)
    → Kept s → GivenEvent s event → Step s event answer s'
    → row_at (settled s) n ≡ Some r → HasNone s (library_of event) n → IsElsewhere n event answer
    → IsUntouched (settled s) (settled s') n

-- a row of the same kind, mode, uid and gid, where there is one
abbrev pub HasRightsOf : Row → Option Row → Type 0
HasRightsOf r None = Unit {0}
HasRightsOf r (Some q) = (q.kind ≡ r.kind) × (q.mode ≡ r.mode) × (q.uid ≡ r.uid) × (q.gid ≡ r.gid)

-- the event changes the mode of this file, and its library acts for the owner or for uid 0; nothing else of the row changes
abbrev pub IsModeSet : State → Event → ℕ → Row → Option Row → Type 0
IsModeSet s (SetMode lib ino mode) n r after =
    (ino ≡ n) × (after ≡ Some (record r { mode = record { 0 = mode } })) × (((creds_of s lib).uid ≡ 0) ⊎ ((creds_of s lib).uid ≡ r.uid))
IsModeSet s _ n r after = ⊥

-- What becomes of the row of a live number. It stays; or the library holds the file, which is then gone, or has its kind and
-- rights at its place; or its mode is changed.
abbrev pub RowGoes : State → Event → ℕ → Row → Option Row → Type 0
RowGoes s event n r after =
    (after ≡ Some r) ⊎ ((HasGrant s (library_of event) n Hold × HasRightsOf r after) ⊎ IsModeSet s event n r after)

-- each step leaves the rows of live numbers so
abbrev pub EveryStepKeepsRows : Type 0
EveryStepKeepsRows =
    (s : State) (event : Event) (answer : CtlAnswer) (s' : State) (n : ℕ) (r : Row)
    → Kept s → GivenEvent s event → Step s event answer s'
    → row_at (settled s) n ≡ Some r → RowGoes s event n r (row_at (settled s') n)

-- what an event hands in stays given through every step of another library
abbrev pub GivenThrough : Type 0
GivenThrough =
    (s : State) (mine event : Event) (answer : CtlAnswer) (s' : State)
    → Kept s → GivenEvent s mine → GivenEvent s event → Step s event answer s' → library_of event ≢ library_of mine
    → GivenEvent s' mine

-- and a bundle that is closed stays closed
abbrev pub ClosedThrough : Type 0
ClosedThrough =
    (s : State) (lib : ℕ) (b : Bundle) (event : Event) (answer : CtlAnswer) (s' : State)
    → Kept s → GivenEvent s event → Step s event answer s' → library_of event ≢ lib
    → parted_hold s lib b ≡ None → parted_hold s' lib b ≡ None
