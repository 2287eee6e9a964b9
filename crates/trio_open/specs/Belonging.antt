-- Which bundles belong to a library: all in them was given to it by grants that are open and by allotments that are out.
use Rattle.std.specs.Prelude.{◌≡◌, ℕ, List, [], map, length, IsTrue}
use Rattle.trio_rights.specs.Sheets.{sheet_numbers}
use Rattle.trio_nodes.specs.declared.grant.GrantKind.TheVariants.{Write, Hold}
use Rattle.trio_lease.specs.Bundles.{Bundled}
use Rattle.trio_lease.specs.Shown.{Shown, LentFile}
use Rattle.trio_lease.specs.declared.parts.FreshParts.{FreshParts}
use Rattle.trio_lease.specs.declared.parts.HoldParts.{HoldParts}
use Rattle.trio_lease.specs.declared.parts.InoParts.{InoParts}
use Rattle.trio_lease.specs.declared.parts.LentPage.{LentPage}
use Rattle.trio_lists.specs.Lists.{In, are_new}
use Rattle.trio_state.specs.Given.{WasAllotted}
use Rattle.trio_state.specs.State.{OpenGrant, State}
use Rattle.trio_open.specs.Open.{hold_of}

-- the numbers of lent pages, in their order
abbrev pub lent_numbers : List LentPage → List ℕ
lent_numbers pages = map (λ p. p.no.0) pages

-- each page has 4096 bytes
abbrev pub AreWhole : List LentPage → Type 0
AreWhole pages = (p : LentPage) → In p pages → length p.page ≡ 4096

-- A file that a write lease shows is that of an open write grant of the library: it names the library, the file, its kind, the
-- entry that opened the grant and the numbers of the pages that were lent. The body and the pages may have any bytes.
pub record IsLeaseOf (s : State) (lib' : ℕ) (f : Shown) : Type 0 where
  pub grant : OpenGrant
  pub is_open : In grant s.open_grants
  pub lib : grant.lib ≡ lib'
  pub kind : grant.kind ≡ Write
  pub named : f.lib.0 ≡ lib'
  pub ino : grant.ino ≡ f.ino
  pub of : grant.of ≡ f.kind
  pub entry : grant.entry ≡ f.entry
  pub index : lent_numbers f.index ≡ sheet_numbers grant.index
  pub blocks : lent_numbers f.blocks ≡ sheet_numbers grant.blocks
  pub whole_index : AreWhole f.index
  pub whole_blocks : AreWhole f.blocks

-- a hold is the one that an open hold of the library gave
pub record IsHoldOf (s : State) (lib' : ℕ) (h : HoldParts) : Type 0 where
  pub grant : OpenGrant
  pub is_open : In grant s.open_grants
  pub lib : grant.lib ≡ lib'
  pub kind : grant.kind ≡ Hold
  pub is : hold_of grant ≡ h

-- a page is out to the library by allotment, and names it
pub record IsPageOf (s : State) (lib' : ℕ) (p : FreshParts) : Type 0 where
  pub named : p.lib.0 ≡ lib'
  pub is_out : WasAllotted s.pages_out lib' p.no.0
  pub whole : length p.page ≡ 4096

-- so is an inode number
pub record IsNumberOf (s : State) (lib' : ℕ) (n : InoParts) : Type 0 where
  pub named : n.lib.0 ≡ lib'
  pub is_out : WasAllotted s.numbers_out lib' n.no

-- All of a bundle was given to the library, and each thing stands in it once. What a write lease shows as lent is not looked at.
pub record Belongs (s : State) (lib : ℕ) (b : Bundled) : Type 0 where
  pub writes : (f : LentFile) → In f b.writes → IsLeaseOf s lib f.stands
  pub holds : (h : HoldParts) → In h b.holds → IsHoldOf s lib h
  pub pages : (p : FreshParts) → In p b.pages → IsPageOf s lib p
  pub numbers : (n : InoParts) → In n b.inodes → IsNumberOf s lib n
  pub writes_once : IsTrue (are_new [] (map (λ f. f.stands.ino) b.writes))
  pub holds_once : IsTrue (are_new [] (map (λ h. h.ino) b.holds))
  pub pages_once : IsTrue (are_new [] (map (λ p. p.no.0) b.pages))
  pub numbers_once : IsTrue (are_new [] (map (λ n. n.no) b.inodes))
