-- What a library has of what its desk gave it, and what it may do with it.
use Rattle.std.specs.Prelude.{ℕ, ◌+◌, ◌==◌, nat_le, Bool, ◌&&◌, ◌||◌, true, IsTrue, List, [], ◌∷◌, ◌++◌, length, map, take, drop, Option, Some, None, if◌then◌else◌, slice_get, slice_set}
use Rattle.std.specs.List.{find, list_all, position, filter_map}
use Rattle.std.specs.Option.{option_map, option_and_then, option_or}
use Rattle.trio_page.specs.Field.{with_part}
use Rattle.trio_lists.specs.Lists.{In, is_among, are_new}
use Rattle.trio_rights.specs.declared.rights.LibNo.{LibNo}
use Rattle.trio_nodes.specs.declared.spot.Spot.{Spot}
use Rattle.trio_nodes.specs.declared.spot.Spot.TheVariants.{Body, Index, Block, Fresh}
use Rattle.trio_lease.specs.Shown.{LentFile, Shown, page_at}
use Rattle.trio_lease.specs.declared.lease.Lease.{Lease}
use Rattle.trio_lease.specs.declared.lease.Lease.TheVariants.{Write, Read, Hold}
use Rattle.trio_lease.specs.declared.parts.HoldParts.{HoldParts}
use Rattle.trio_lease.specs.declared.parts.FreshParts.{FreshParts}
use Rattle.trio_lease.specs.declared.parts.InoParts.{InoParts}
use Rattle.trio_lease.specs.declared.parts.LentPage.{LentPage}
use Rattle.trio_desk.specs.Out.{LibOut, Parcel, IsLent, IsAllotted, file_numbers, hold_numbers, page_numbers, ino_numbers, zero_page, new_ino}

-- The files that were lent to it for writing, as they stand and as they were lent; those that were lent to it for reading, and its
-- holds, which show what was lent as long as they last; and the pages and inode numbers that were allotted to it. Each kind stands
-- in the order in which it came.
pub record Has : Type 0 where
  pub writes : List LentFile
  pub reads : List Shown
  pub holds : List HoldParts
  pub pages : List FreshParts
  pub inodes : List InoParts

-- at first it has nothing
abbrev pub nothing : Has
nothing = record { writes = []; reads = []; holds = []; pages = []; inodes = [] }

-- the library, and what it has
pub record Held : Type 0 where
  pub lib : LibNo
  pub has : Has

-- the inode numbers of files that are lent for reading
abbrev pub read_numbers : List Shown → List ℕ
read_numbers reads = map (λ r. r.ino) reads

-- All that it has is out, each page that it can write into has 4096 bytes, and no number stands twice.
pub record OnList (out : LibOut) (has : Has) : Type 0 where
  pub writes : (f : LentFile) → In f has.writes → IsLent out f
  pub reads : (r : Shown) → In r has.reads → In r out.reads
  pub holds : (h : HoldParts) → In h has.holds → In h out.holds
  pub pages : (p : FreshParts) → In p has.pages → IsAllotted out p
  pub numbers : (n : InoParts) → In n has.inodes → In n.no out.numbers
  pub writes_once : IsTrue (are_new [] (file_numbers has.writes))
  pub reads_once : IsTrue (are_new [] (read_numbers has.reads))
  pub holds_once : IsTrue (are_new [] (hold_numbers has.holds))
  pub pages_once : IsTrue (are_new [] (page_numbers has.pages))
  pub numbers_once : IsTrue (are_new [] (ino_numbers has.inodes))

-- The other way round: it has each write lease and each hold that is out.
pub record HasLeases (out : LibOut) (has : Has) : Type 0 where
  pub writes : (w : Shown) → In w out.writes → In w.ino (file_numbers has.writes)
  pub holds : (h : HoldParts) → In h out.holds → In h.ino (hold_numbers has.holds)

-- ---- what is given

-- with one more lease
abbrev pub keeps_lease : Has → Lease → Has
keeps_lease has (Write f) = record has { writes = has.writes ++ f ∷ [] }
keeps_lease has (Read r) = record has { reads = has.reads ++ r ∷ [] }
keeps_lease has (Hold h) = record has { holds = has.holds ++ h ∷ [] }

-- with more pages, all zero, and more numbers
abbrev pub keeps_allotted : LibNo → Has → List ℕ → List ℕ → Has
keeps_allotted lib has pages numbers =
    record has { pages = has.pages ++ map (zero_page lib) pages; inodes = has.inodes ++ map (new_ino lib) numbers }

-- ---- writing

-- the element at a place changed; None where there is none, or where its change is None
abbrev pub changed_at : {X : Type 0} → (X → Option X) → ℕ → List X → Option (List X)
changed_at f i xs = option_and_then (λ x. option_map (λ y. slice_set xs i y) (f x)) (slice_get xs i)

-- the same of the first element that passes a test
abbrev pub changed_first : {X : Type 0} → (X → Bool) → (X → Option X) → List X → Option (List X)
changed_first p f xs = option_and_then (λ i. changed_at f i xs) (position p xs)

-- bytes of this size with others in place from an offset on; None where those would leave them
abbrev pub poked_bytes : ℕ → ℕ → List ℕ → List ℕ → Option (List ℕ)
poked_bytes size offset new bytes = if nat_le (offset + length new) size then Some (with_part offset new bytes) else None

-- an index page with bytes in place; its mark stays
abbrev pub poked_index_page : ℕ → List ℕ → LentPage → Option LentPage
poked_index_page offset new p = option_map (λ bytes. record p { page = bytes }) (poked_bytes 4096 offset new p.page)

-- a block with bytes in place, marked as touched
abbrev pub poked_block_page : ℕ → List ℕ → LentPage → Option LentPage
poked_block_page offset new p = option_map (λ bytes. record p { page = bytes; touched = true }) (poked_bytes 4096 offset new p.page)

-- a file with bytes in place in its body; how it was lent stays
abbrev pub poked_body : ℕ → List ℕ → LentFile → Option LentFile
poked_body offset new f = option_map (λ body. record f { stands = record f.stands { body = body } }) (poked_bytes 64 offset new f.stands.body)

-- the same in one of its index pages, counted from 0
abbrev pub poked_index : ℕ → ℕ → List ℕ → LentFile → Option LentFile
poked_index i offset new f =
    option_map (λ index. record f { stands = record f.stands { index = index } }) (changed_at (poked_index_page offset new) i f.stands.index)

-- the same in one of its blocks, counted from 0
abbrev pub poked_block : ℕ → ℕ → List ℕ → LentFile → Option LentFile
poked_block i offset new f =
    option_map (λ blocks. record f { stands = record f.stands { blocks = blocks } }) (changed_at (poked_block_page offset new) i f.stands.blocks)

-- an allotted page with bytes in place
abbrev pub poked_fresh : ℕ → List ℕ → FreshParts → Option FreshParts
poked_fresh offset new p = option_map (λ bytes. record p { page = bytes }) (poked_bytes 4096 offset new p.page)

-- what it has with the first file of this number changed
abbrev pub with_file : (LentFile → Option LentFile) → ℕ → Has → Option Has
with_file f ino has = option_map (λ writes. record has { writes = writes }) (changed_first (λ w. w.stands.ino == ino) f has.writes)

-- what it has with the first allotted page of this number changed
abbrev pub with_fresh : (FreshParts → Option FreshParts) → ℕ → Has → Option Has
with_fresh f page has = option_map (λ pages. record has { pages = pages }) (changed_first (λ p. p.no.0 == page) f has.pages)

-- What it has once these bytes are written at a spot, from an offset on; None where it has no such write lease or allotted page,
-- or the bytes leave it.
abbrev pub poked : Has → Spot → ℕ → List ℕ → Option Has
poked has (Body ino) offset new = with_file (poked_body offset new) ino has
poked has (Index ino i) offset new = with_file (poked_index i offset new) ino has
poked has (Block ino i) offset new = with_file (poked_block i offset new) ino has
poked has (Fresh page) offset new = with_fresh (poked_fresh offset new) page has

-- ---- looking

-- so many bytes of these, from an offset on; None where they leave them
abbrev pub peeked_bytes : ℕ → ℕ → List ℕ → Option (List ℕ)
peeked_bytes offset len bytes = if nat_le (offset + len) (length bytes) then Some (take len (drop offset bytes)) else None

-- the file of this number as it is lent to the library: for writing, as it stands, or else for reading
abbrev pub lent_as : Has → ℕ → Option Shown
lent_as has ino = option_or (option_map (λ w. w.stands) (find (λ w. w.stands.ino == ino) has.writes)) (find (λ r. r.ino == ino) has.reads)

-- its body; a hold shows its file's body too, and nothing else of it
abbrev pub body_of : Has → ℕ → Option (List ℕ)
body_of has ino =
    option_or (option_map (λ f. f.body) (lent_as has ino)) (option_map (λ h. h.body) (find (λ h. h.ino == ino) has.holds))

-- the bytes at a spot; None where the library has no such thing
abbrev pub bytes_at : Has → Spot → Option (List ℕ)
bytes_at has (Body ino) = body_of has ino
bytes_at has (Index ino i) = option_and_then (λ f. page_at f.index i) (lent_as has ino)
bytes_at has (Block ino i) = option_and_then (λ f. page_at f.blocks i) (lent_as has ino)
bytes_at has (Fresh page) = option_map (λ p. p.page) (find (λ p. p.no.0 == page) has.pages)

-- So many bytes at a spot, from an offset on; None where it has no such thing, or the bytes leave it.
abbrev pub peeked : Has → Spot → ℕ → ℕ → Option (List ℕ)
peeked has at offset len = option_and_then (peeked_bytes offset len) (bytes_at has at)

-- ---- handing in

-- the numbers are of things that are there, and none is named twice
abbrev pub are_there : {X : Type 0} → (X → ℕ) → List X → List ℕ → Bool
are_there number xs names = list_all (λ n. is_among n (map number xs)) names && are_new [] names

-- the things of these numbers, in the order in which they are named
abbrev pub named : {X : Type 0} → (X → ℕ) → List X → List ℕ → List X
named number xs names = filter_map (λ n. find (λ x. number x == n) xs) names

-- the list without the first thing of a number
abbrev pub without : {X : Type 0} → (X → ℕ) → List X → ℕ → List X
without number [] n = []
without number (x ∷ xs) n = if number x == n then xs else x ∷ without number xs n

-- the list without the first thing of each of these numbers
abbrev pub without_all : {X : Type 0} → (X → ℕ) → List X → List ℕ → List X
without_all number xs [] = xs
without_all number xs (n ∷ names) = without_all number (without number xs n) names

-- it has a write lease or a hold on this file
abbrev pub may_hand_in : Has → ℕ → Bool
may_hand_in has ino = is_among ino (file_numbers has.writes) || is_among ino (hold_numbers has.holds)

-- it has a write lease or a hold on each file that is named, and the allotted pages and inode numbers that are, and nothing is
-- named twice
abbrev pub has_all_of : Has → List ℕ → List ℕ → List ℕ → Bool
has_all_of has inos pages numbers =
    (list_all (may_hand_in has) inos && are_new [] inos) && are_there (λ (p : FreshParts). p.no.0) has.pages pages && are_there (λ (n : InoParts). n.no) has.inodes numbers

-- just those, each as it stands: of a file that is named the write lease, the hold, or both
abbrev pub parcel_named : Has → List ℕ → List ℕ → List ℕ → Parcel
parcel_named has inos pages numbers = record {
  writes = named (λ f. f.stands.ino) has.writes inos;
  holds = named (λ h. h.ino) has.holds inos;
  pages = named (λ p. p.no.0) has.pages pages;
  inodes = named (λ n. n.no) has.inodes numbers;
}

-- what is left beside them
abbrev pub rest_of : Has → List ℕ → List ℕ → List ℕ → Has
rest_of has inos pages numbers = record {
  writes = without_all (λ f. f.stands.ino) has.writes inos;
  reads = has.reads;
  holds = without_all (λ h. h.ino) has.holds inos;
  pages = without_all (λ p. p.no.0) has.pages pages;
  inodes = without_all (λ n. n.no) has.inodes numbers;
}

-- with what came back, behind the rest
abbrev pub with_parcel : Has → Parcel → Has
with_parcel has b = record {
  writes = has.writes ++ b.writes;
  reads = has.reads;
  holds = has.holds ++ b.holds;
  pages = has.pages ++ b.pages;
  inodes = has.inodes ++ b.inodes;
}

-- all that it has but its read leases
abbrev pub whole_parcel : Has → Parcel
whole_parcel has = record { writes = has.writes; holds = has.holds; pages = has.pages; inodes = has.inodes }

-- all that it has but its read leases, with these read leases
abbrev pub with_reads : Has → List Shown → Has
with_reads has reads = record has { reads = reads }

-- it has nothing, but for read leases
abbrev pub has_nothing : Has → Bool
has_nothing has = length has.writes == 0 && length has.holds == 0 && length has.pages == 0 && length has.inodes == 0

-- ---- giving back

-- it has a read lease on the file
abbrev pub has_read : Has → ℕ → Bool
has_read has ino = is_among ino (read_numbers has.reads)

-- the lease that is given back: the first read lease on the file
abbrev pub read_on : Has → ℕ → Option Shown
read_on has ino = find (λ r. r.ino == ino) has.reads

-- what it has without that lease
abbrev pub without_read : Has → ℕ → Has
without_read has ino = with_reads has (without (λ r. r.ino) has.reads ino)
