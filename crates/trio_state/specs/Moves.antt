-- A release in two moves, a beginning and an end: the beginning takes a closed bundle in, and the end judges it. Between them
-- its library makes no call, while others go on, and bytes may be written into the bundle's pages.
use Rattle.std.specs.Prelude.{◌≡◌, ℕ, zero, suc, ◌-◌, List, [], ◌∷◌, length, map, replicate, Option, Some, None, slice_index_or, slice_set}
use Rattle.trio_rights.specs.declared.kind.Kind.{Kind}
use Rattle.trio_rights.specs.declared.rights.Creds.{Creds}
use Rattle.trio_lists.specs.Lists.{In}
use Rattle.trio_rights.specs.Sheets.{Sheet, sheet_numbers}
use Rattle.trio_rights.specs.Bundle.{Written, Bundle, bundle_sheets}
use Rattle.trio_layout.specs.Image.{Image}
use Rattle.trio_layout.specs.Case.{Case}
use Rattle.trio_layout.specs.Copied.{with_copied}
use Rattle.trio_state.specs.State.{State, IsLibrary}
use Rattle.trio_state.specs.Bundles.{parted_hold}
use Rattle.trio_state.specs.Tells.{case_in}
use Rattle.trio_state.specs.Step.{Event, library_of, CtlAnswer, NotClosed, NoMemory, ReleaseEnd, Step}
use Rattle.trio_state.specs.Kept.{Kept}
use Rattle.trio_state.specs.Given.{GivenTo, GivenEvent}
use Rattle.trio_state.specs.Run.{start}

-- ---- what stands between the moves

-- a written file of a bundle, without its body and without the bytes of its pages
pub record FileOutline : Type 0 where
  pub ino : ℕ
  pub kind : Kind
  pub index : List ℕ
  pub blocks : List ℕ

-- which leases, holds, pages and inode numbers a bundle has
pub record Outline : Type 0 where
  pub writes : List FileOutline
  pub holds : List ℕ
  pub pages : List ℕ
  pub numbers : List ℕ

-- the outline of a written file
abbrev pub file_outline : Written → FileOutline
file_outline w = record { ino = w.ino; kind = w.kind; index = sheet_numbers w.index; blocks = sheet_numbers w.blocks }

-- the outline of a bundle: all of it but bodies and bytes
abbrev pub outline_of : Bundle → Outline
outline_of b = record {
  writes = map file_outline b.writes;
  holds = b.holds;
  pages = sheet_numbers b.pages;
  numbers = b.numbers;
}

-- The state, and for each library, from library 1 on, the outline of its release that has begun and not ended.
pub record Underway : Type 0 where
  pub state : State
  pub begun : List (Option Outline)

-- the outline of the library's release that has begun and not ended; where none has, the library is idle
abbrev pub begun_by : Underway → ℕ → Option Outline
begun_by u zero = None
begun_by u (suc n) = slice_index_or u.begun n None

-- the same state, where just this has begun of the library
abbrev pub with_begun : Underway → ℕ → Option Outline → Underway
with_begun u lib o = record u { begun = slice_set u.begun (lib - 1) o }

-- the first state of an image, where no release has begun
abbrev pub none_begun : Image → List Creds → Underway
none_begun image creds = record { state = start image creds; begun = replicate (length creds) None }

-- ---- the acts

-- the beginning of a release, its end, or one call of the controller
pub data Act : Type 0 where
  Begin : (lib : ℕ) (bundle : Bundle) → Act
  End : (lib : ℕ) (bundle : Bundle) → Act
  One : (event : Event) → Act

-- that a release has begun, or the answer to a call
pub data ActAnswer : Type 0 where
  HasBegun : ActAnswer
  Answered : (answer : CtlAnswer) → ActAnswer

-- each page of the bundle has 4096 bytes, of any value
abbrev pub IsFull : Bundle → Type 0
IsFull b = (x : Sheet) → In x (bundle_sheets b) → length x.bytes ≡ 4096

-- What a library may do: with a release underway end just that one, with any bytes; and else begin one, or make a call. What
-- it hands in was given to it.
abbrev pub GivenAct : Underway → Act → Type 0
GivenAct u (Begin lib b) = IsLibrary u.state.creds lib × (begun_by u lib ≡ None) × GivenTo u.state lib b
GivenAct u (End lib b) = (begun_by u lib ≡ Some (outline_of b)) × IsFull b
GivenAct u (One event) = (begun_by u (library_of event) ≡ None) × GivenEvent u.state event

-- How a release begins: a bundle that is not closed comes back, and any bundle may for want of memory, with nothing changed; of
-- a closed one the outline is noted, and nothing else changes.
pub data Beginning (u : Underway) (lib : ℕ) (b : Bundle) (answer : ActAnswer) (u' : Underway) : Type 0 where
  IsTaken : parted_hold u.state lib b ≡ None → answer ≡ HasBegun → u' ≡ with_begun u lib (Some (outline_of b)) → Beginning u lib b answer u'
  ComesBack : (n : ℕ) → parted_hold u.state lib b ≡ Some n → answer ≡ Answered (NotClosed n) → u' ≡ u → Beginning u lib b answer u'
  HasNoRoom : answer ≡ Answered NoMemory → u' ≡ u → Beginning u lib b answer u'

-- What each act does. A release ends as the whole call does that is a release, by the state of then, and never wants memory.
abbrev pub Acts : Underway → Act → ActAnswer → Underway → Type 0
Acts u (Begin lib b) answer u' = Beginning u lib b answer u'
Acts u (End lib b) answer u' =
    (said : CtlAnswer) × (answer ≡ Answered said)
    × ReleaseEnd u.state lib b said u'.state × (u'.begun ≡ (with_begun u lib None).begun)
Acts u (One event) answer u' =
    (said : CtlAnswer) × (answer ≡ Answered said) × Step u.state event said u'.state × (u'.begun ≡ u.begun)

-- an act with its answer, and what stands before and after it
pub record ActMove : Type 0 where
  pub before : Underway
  pub act : Act
  pub answer : ActAnswer
  pub after : Underway

-- acts from u on: each begins where the one before it ended, and is one that its library may do
abbrev pub ActTrace : Underway → List ActMove → Type 0
ActTrace u [] = Unit {0}
ActTrace u (m ∷ moves) =
    (m.before ≡ u) × GivenAct m.before m.act × Acts m.before m.act m.answer m.after × ActTrace m.after moves

-- ---- what holds between the moves

-- The state is kept. Each bundle with the outline of a release that has begun, whatever its bytes, was given to that library
-- and is closed.
pub record KeptUnderway (u : Underway) : Type 0 where
  pub kept : Kept u.state
  pub placed : length u.begun ≡ length u.state.creds
  pub given : (lib : ℕ) (b : Bundle) → begun_by u lib ≡ Some (outline_of b) → IsFull b → GivenTo u.state lib b
  pub closed : (lib : ℕ) (b : Bundle) → begun_by u lib ≡ Some (outline_of b) → parted_hold u.state lib b ≡ None

-- The case is that of a release of the library that has begun, just as it would be copied from the state of now: the settled
-- bodies of the held files, the copied rows, the library's credentials, the core range and the count of inode numbers.
abbrev pub IsAwaited : Underway → ℕ → Case → Type 0
IsAwaited u lib c = (begun_by u lib ≡ Some (outline_of c.bundle)) × (c ≡ with_copied (case_in u.state lib c.bundle))
