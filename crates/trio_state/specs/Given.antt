-- What a library can hand in: what it was given, with any bytes.
use Rattle.std.specs.Prelude.{◌≡◌, ◌≢◌, ℕ, List, [], length, map, Option, Some, IsTrue}
use Rattle.trio_rights.specs.declared.rights.LibNo.{LibNo}
use Rattle.trio_tables.specs.Out.{lib_at}
use Rattle.trio_nodes.specs.declared.grant.GrantKind.TheVariants.{Read, Write, Hold}
use Rattle.trio_nodes.specs.declared.grant.GrantKind.{GrantKind}
use Rattle.trio_lists.specs.Lists.{In, are_new}
use Rattle.trio_rights.specs.Sheets.{Sheet, sheet_numbers}
use Rattle.trio_state.specs.State.{OpenGrant, State}
use Rattle.trio_rights.specs.Bundle.{Written, Bundle, bundle_sheets}
use Rattle.trio_state.specs.Step.{Event, Grant, Allot, Back, Release, Settle, SetMode}

-- the library has an open grant of this kind on the file
pub record HasGrant (s : State) (lib' ino' : ℕ) (kind' : GrantKind) : Type 0 where
  pub grant : OpenGrant
  pub is_open : In grant s.open_grants
  pub lib : grant.lib ≡ lib'
  pub kind : grant.kind ≡ kind'
  pub ino : grant.ino ≡ ino'

-- a written file is that of an open write grant of the library, with the page numbers that it lent
pub record WasLent (s : State) (lib' : ℕ) (w : Written) : Type 0 where
  pub grant : OpenGrant
  pub is_open : In grant s.open_grants
  pub lib : grant.lib ≡ lib'
  pub kind : grant.kind ≡ Write
  pub ino : grant.ino ≡ w.ino
  pub of : grant.of ≡ w.kind
  pub index : sheet_numbers w.index ≡ sheet_numbers grant.index
  pub blocks : sheet_numbers w.blocks ≡ sheet_numbers grant.blocks

-- the number is out by an allotment of this library
abbrev pub WasAllotted : List (Option LibNo) → ℕ → ℕ → Type 0
WasAllotted outs lib n = lib_at outs n ≡ Some (record { 0 = lib })

-- The bundle is made of what the library was given, each thing once, and each page with 4096 bytes of any value. Nothing is
-- asked of bodies.
pub record GivenTo (s : State) (lib : ℕ) (b : Bundle) : Type 0 where
  pub writes : (w : Written) → In w b.writes → WasLent s lib w
  pub holds : (n : ℕ) → In n b.holds → HasGrant s lib n Hold
  pub pages : (n : ℕ) → In n (sheet_numbers b.pages) → WasAllotted s.pages_out lib n
  pub numbers : (n : ℕ) → In n b.numbers → WasAllotted s.numbers_out lib n
  pub full : (x : Sheet) → In x (bundle_sheets b) → length x.bytes ≡ 4096
  pub writes_once : IsTrue (are_new [] (map (λ w. w.ino) b.writes))
  pub holds_once : IsTrue (are_new [] b.holds)
  pub pages_once : IsTrue (are_new [] (sheet_numbers b.pages))
  pub numbers_once : IsTrue (are_new [] b.numbers)

-- the library has no open read grant
abbrev pub HasNoRead : State → ℕ → Type 0
HasNoRead s lib = (g : OpenGrant) → In g s.open_grants → g.lib ≡ lib → g.kind ≢ Read

-- What an event hands in was given to its library. A settle ends all that its library has, so each read grant is given back
-- before it.
abbrev pub GivenEvent : State → Event → Type 0
GivenEvent s (Grant lib ino kind) = Unit {0}
GivenEvent s (Allot lib pages numbers) = Unit {0}
GivenEvent s (Back lib ino) = HasGrant s lib ino Read
GivenEvent s (Release lib b) = GivenTo s lib b
GivenEvent s (Settle lib b) = GivenTo s lib b × HasNoRead s lib
GivenEvent s (SetMode lib ino mode) = Unit {0}
