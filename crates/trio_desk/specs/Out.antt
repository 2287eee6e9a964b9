-- What one library has out: what it was lent and allotted, and has neither handed in nor given back.
use Rattle.std.specs.Prelude.{◌≡◌, ◌↔◌, ℕ, ◌≤◌, ◌<◌, ◌==◌, not, IsTrue, List, [], ◌∷◌, ◌++◌, map, length, replicate, None, Some, Ok}
use Rattle.std.specs.List.{filter, flat_map}
use Rattle.std.specs.Result.{is_ok}
use Rattle.trio_page.specs.Field.{zeros}
use Rattle.trio_rights.specs.declared.rights.LibNo.{LibNo}
use Rattle.trio_rights.specs.Sheets.{with_pages}
use Rattle.trio_layout.specs.Range.{is_core}
use Rattle.trio_layout.specs.Body.{body_at, body_of}
use Rattle.trio_layout.specs.Core.{Core}
use Rattle.trio_layout.specs.Chain.{chain_of}
use Rattle.trio_layout.specs.Entries.{entries_of_kind}
use Rattle.trio_lists.specs.Lists.{In, is_among, are_new}
use Rattle.trio_lease.specs.Shown.{Shown, LentFile}
use Rattle.trio_lease.specs.Bundles.{Bundled}
use Rattle.trio_lease.specs.Views.{lent_sheet}
use Rattle.trio_lease.specs.declared.fresh.Allotted.{Allotted}
use Rattle.trio_lease.specs.declared.lease.Lease.{Lease}
use Rattle.trio_lease.specs.declared.lease.Lease.TheVariants.{Write, Read, Hold}
use Rattle.trio_nodes.specs.declared.grant.GrantKind.{GrantKind}
use Rattle.trio_nodes.specs.declared.grant.GrantKind.TheVariants.{Write as ToWrite, Read as ToRead, Hold as ToHold}
use Rattle.trio_lease.specs.declared.parts.LentPage.{LentPage}
use Rattle.trio_lease.specs.declared.parts.HoldParts.{HoldParts}
use Rattle.trio_lease.specs.declared.parts.FreshParts.{FreshParts}
use Rattle.trio_lease.specs.declared.parts.InoParts.{InoParts}
use Rattle.trio_desk.specs.Contents.{Sizes}

-- files lent for writing and for reading, each as it was lent; holds; and the numbers of allotted pages and inodes
pub record LibOut : Type 0 where
  pub writes : List Shown
  pub reads : List Shown
  pub holds : List HoldParts
  pub pages : List ℕ
  pub numbers : List ℕ

-- what one release hands in, each thing as it stands: a bundle but for the room in it
pub record Parcel : Type 0 where
  pub writes : List LentFile
  pub holds : List HoldParts
  pub pages : List FreshParts
  pub inodes : List InoParts

abbrev pub parcel_of : Bundled → Parcel
parcel_of b = record { writes = b.writes; holds = b.holds; pages = b.pages; inodes = b.inodes }

-- the inode numbers of files, as they stand
abbrev pub file_numbers : List LentFile → List ℕ
file_numbers files = map (λ f. f.stands.ino) files

-- of holds
abbrev pub hold_numbers : List HoldParts → List ℕ
hold_numbers holds = map (λ h. h.ino) holds

-- the numbers of pages
abbrev pub page_numbers : List FreshParts → List ℕ
page_numbers pages = map (λ p. p.no.0) pages

-- and of inodes
abbrev pub ino_numbers : List InoParts → List ℕ
ino_numbers inodes = map (λ n. n.no) inodes

-- the same files, reads and holds, and the same numbers in any order
pub record OutAlike (a b : LibOut) : Type 0 where
  pub writes : a.writes ≡ b.writes
  pub reads : a.reads ≡ b.reads
  pub holds : a.holds ≡ b.holds
  pub pages : (n : ℕ) → In n a.pages ↔ In n b.pages
  pub numbers : (n : ℕ) → In n a.numbers ↔ In n b.numbers

-- ---- what is out after an answer

-- a lease is given
abbrev pub with_lease : LibOut → Lease → LibOut
with_lease out (Write f) = record out { writes = out.writes ++ f.lent ∷ [] }
with_lease out (Read f) = record out { reads = out.reads ++ f ∷ [] }
with_lease out (Hold h) = record out { holds = out.holds ++ h ∷ [] }

-- pages and numbers are allotted
abbrev pub with_allotted : LibOut → List ℕ → List ℕ → LibOut
with_allotted out pages numbers = record out { pages = out.pages ++ pages; numbers = out.numbers ++ numbers }

-- nothing is out
abbrev pub nothing_out : LibOut
nothing_out = record { writes = []; reads = []; holds = []; pages = []; numbers = [] }

-- the read lease on a file is back
abbrev pub without_read : LibOut → ℕ → LibOut
without_read out ino = record out { reads = filter (λ r. not (r.ino == ino)) out.reads }

-- so are these read leases
abbrev pub without_reads : LibOut → List Shown → LibOut
without_reads out back = record out { reads = filter (λ r. not (is_among r.ino (map (λ f. f.ino) back))) out.reads }

-- all of a parcel is back
abbrev pub without_parcel : LibOut → Parcel → LibOut
without_parcel out b = record out {
  writes = filter (λ w. not (is_among w.ino (file_numbers b.writes))) out.writes;
  holds = filter (λ h. not (is_among h.ino (hold_numbers b.holds))) out.holds;
  pages = filter (λ p. not (is_among p (page_numbers b.pages))) out.pages;
  numbers = filter (λ n. not (is_among n (ino_numbers b.inodes))) out.numbers;
}

-- ---- what was given

-- the same file with the same pages, whatever their bytes
pub record SameFile (a b : Shown) : Type 0 where
  pub lib : a.lib ≡ b.lib
  pub ino : a.ino ≡ b.ino
  pub kind : a.kind ≡ b.kind
  pub entry : a.entry ≡ b.entry
  pub index : map (λ p. p.no) a.index ≡ map (λ p. p.no) b.index
  pub blocks : map (λ p. p.no) a.blocks ≡ map (λ p. p.no) b.blocks

-- each page has 4096 bytes
abbrev pub AreWhole : List LentPage → Type 0
AreWhole pages = (p : LentPage) → In p pages → length p.page ≡ 4096

-- a file that stands as it was lent but for bytes, and that is out
pub record IsLent (out : LibOut) (f : LentFile) : Type 0 where
  pub lent : In f.lent out.writes
  pub same : SameFile f.stands f.lent
  pub index : AreWhole f.stands.index
  pub blocks : AreWhole f.stands.blocks

-- an allotted page that is out
pub record IsAllotted (out : LibOut) (p : FreshParts) : Type 0 where
  pub given : In p.no.0 out.pages
  pub whole : length p.page ≡ 4096

-- All of a parcel is out, and each thing stands in it once.
pub record WasGiven (out : LibOut) (b : Parcel) : Type 0 where
  pub writes : (f : LentFile) → In f b.writes → IsLent out f
  pub holds : (h : HoldParts) → In h b.holds → In h out.holds
  pub pages : (p : FreshParts) → In p b.pages → IsAllotted out p
  pub numbers : (n : InoParts) → In n b.inodes → In n.no out.numbers
  pub writes_once : IsTrue (are_new [] (file_numbers b.writes))
  pub holds_once : IsTrue (are_new [] (hold_numbers b.holds))
  pub pages_once : IsTrue (are_new [] (page_numbers b.pages))
  pub numbers_once : IsTrue (are_new [] (ino_numbers b.inodes))

-- ---- what is given

-- the numbers of lent pages, in their order
abbrev pub lent_numbers : List LentPage → List ℕ
lent_numbers pages = map (λ p. p.no.0) pages

-- the numbers of a file's pages: of its index pages, and then of its blocks
abbrev pub numbers_of_file : Shown → List ℕ
numbers_of_file f = lent_numbers f.index ++ lent_numbers f.blocks

-- a core that has just the pages that a lease shows, each at its number
abbrev pub lent_core : Sizes → Shown → Core
lent_core sizes f = record {
  pages = with_pages (map lent_sheet (f.index ++ f.blocks)) (replicate sizes.range.end None);
  root = [];
  range = sizes.range;
  inodes = sizes.inodes;
}

-- A file as a lease gives it: its pages are whole and differ; its body and its chain are in the grammar, and the chain's index pages and
-- blocks are those that are lent, in their order; and the slots of a directory are in the grammar, its names apart.
pub record IsWellLent (sizes : Sizes) (f : Shown) : Type 0 where
  pub index : AreWhole f.index
  pub blocks : AreWhole f.blocks
  pub once : IsTrue (are_new [] (numbers_of_file f))
  pub body : body_of f.kind sizes.range f.body ≡ Some (body_at f.body)
  pub chain : chain_of (lent_core sizes f) (body_at f.body) ≡ Ok (record { index = lent_numbers f.index; blocks = lent_numbers f.blocks })
  pub entries : IsTrue (is_ok (entries_of_kind (lent_core sizes f) f.kind (lent_numbers f.blocks)))

-- the numbers of the files on which something is out
abbrev pub files_out : LibOut → List ℕ
files_out out = map (λ w. w.ino) out.writes ++ map (λ r. r.ino) out.reads ++ hold_numbers out.holds

-- the numbers of the pages that are out to be written: lent ones and allotted ones
abbrev pub pages_out : LibOut → List ℕ
pages_out out = flat_map numbers_of_file out.writes ++ out.pages

-- a file that a grant lends for writing: as it was lent, and its pages are none that are out
pub record IsFreshFile (lib' : LibNo) (ino' : ℕ) (sizes : Sizes) (out : LibOut) (f : LentFile) : Type 0 where
  pub lib : f.lent.lib ≡ lib'
  pub ino : f.lent.ino ≡ ino'
  pub as_lent : f.stands ≡ f.lent
  pub well : IsWellLent sizes f.lent
  pub apart : (n : ℕ) → In n (numbers_of_file f.lent) → In n (pages_out out) → ⊥

-- the kind of the grant by which a lease is lent
abbrev pub kind_lent : Lease → GrantKind
kind_lent (Write f) = ToWrite
kind_lent (Read f) = ToRead
kind_lent (Hold h) = ToHold

-- the lease that a grant gives on a file is the library's
abbrev pub IsLeaseFor : LibNo → ℕ → Sizes → LibOut → Lease → Type 0
IsLeaseFor lib ino sizes out (Write f) = IsFreshFile lib ino sizes out f
IsLeaseFor lib ino sizes out (Read f) = (f.lib ≡ lib) × (f.ino ≡ ino) × IsWellLent sizes f
IsLeaseFor lib ino sizes out (Hold h) = (h.lib ≡ lib) × (h.ino ≡ ino) × (body_of h.kind sizes.range h.body ≡ Some (body_at h.body))

-- and nothing else on the file is out
pub record IsFreshLease (lib : LibNo) (ino : ℕ) (sizes : Sizes) (out : LibOut) (lease : Lease) : Type 0 where
  pub is : IsLeaseFor lib ino sizes out lease
  pub new : In ino (files_out out) → ⊥

-- a page as it is allotted: all zero
abbrev pub zero_page : LibNo → ℕ → FreshParts
zero_page lib n = record { lib = lib; no = record { 0 = n }; page = zeros 4096 }

-- an inode number as it is allotted
abbrev pub new_ino : LibNo → ℕ → InoParts
new_ino lib n = record { lib = lib; no = n }

-- What an allotment gives: core pages, all zero, and inode numbers, none twice or out already; the number of the root is none of them,
-- nor that of a file on which something is out.
pub record IsFreshAllotment (lib : LibNo) (sizes : Sizes) (out : LibOut) (given : Allotted) : Type 0 where
  pub pages_are : given.pages.items ≡ map (zero_page lib) (page_numbers given.pages.items)
  pub inodes_are : given.inodes.items ≡ map (new_ino lib) (ino_numbers given.inodes.items)
  pub core : (n : ℕ) → In n (page_numbers given.pages.items) → IsTrue (is_core sizes.range n)
  pub range : (n : ℕ) → In n (ino_numbers given.inodes.items) → (2 ≤ n) × (n ≤ sizes.inodes)
  pub pages : IsTrue (are_new (pages_out out) (page_numbers given.pages.items))
  pub numbers : IsTrue (are_new out.numbers (ino_numbers given.inodes.items))
  pub unlent : (n : ℕ) → In n (ino_numbers given.inodes.items) → In n (files_out out) → ⊥

-- each of these numbers is above those before it
abbrev pub AreRising : List ℕ → Type 0
AreRising [] = Unit {0}
AreRising (n ∷ ns) = ((m : ℕ) → In m ns → n < m) × AreRising ns

-- an allotment has as many pages and numbers as were asked, and both in rising order
pub record HasWanted (wanted_pages wanted_numbers : ℕ) (given : Allotted) : Type 0 where
  pub pages : length given.pages.items ≡ wanted_pages
  pub numbers : length given.inodes.items ≡ wanted_numbers
  pub pages_rise : AreRising (page_numbers given.pages.items)
  pub numbers_rise : AreRising (ino_numbers given.inodes.items)

-- ---- closed parcels

-- of a hold and the write lease on its file's directory the parcel has both or neither
abbrev pub AreTogether : Parcel → HoldParts → Type 0
AreTogether b h = In h.ino (hold_numbers b.holds) ↔ In h.parent (file_numbers b.writes)

-- so it is with each hold that is out
abbrev pub IsClosed : LibOut → Parcel → Type 0
IsClosed out b = (h : HoldParts) → In h out.holds → AreTogether b h

-- a hold on this number is parted from the lease on its directory, and none on a lower one is
pub record IsLowestParted (out : LibOut) (b : Parcel) (n : ℕ) : Type 0 where
  pub hold : HoldParts
  pub is_out : In hold out.holds
  pub number : hold.ino ≡ n
  pub parted : AreTogether b hold → ⊥
  pub lowest : (h : HoldParts) → In h out.holds → (AreTogether b h → ⊥) → n ≤ h.ino
