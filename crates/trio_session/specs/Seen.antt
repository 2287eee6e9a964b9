-- What contracts see of a session, and what it shows.
use Rattle.std.specs.Prelude.{◌≡◌, ◌≢◌, ◌⊎◌, ℕ, ◌+◌, ◌%◌, ◌<◌, ◌≤◌, ◌==◌, not, ◌||◌, Bool, false, IsTrue, List, [], ◌∷◌, ◌++◌, map, take, drop, length, min, slice_get, slice_index_or, slice_set, Option, None, Some, if◌then◌else◌}
use Rattle.std.specs.List.{filter, find, position}
use Rattle.std.specs.Option.{is_some, option_map, option_map_or, option_and_then, option_or}
use Rattle.trio_rights.specs.declared.rights.LibNo.{LibNo}
use Rattle.trio_rights.specs.declared.rights.Creds.{Creds}
use Rattle.trio_rights.specs.declared.kind.Kind.{Kind}
use Rattle.trio_rights.specs.declared.kind.Kind.TheVariants.{Directory, Regular}
use Rattle.trio_rights.specs.ByKind.{is_directory}
use Rattle.trio_lists.specs.Lists.{In, is_among}
use Rattle.trio_layout.specs.Range.{is_core}
use Rattle.trio_layout.specs.Entries.{body_in_slot, slot_bytes}
use Rattle.trio_layout.specs.Slot.{slot_of}
use Rattle.trio_layout.specs.declared.slot.EntryPart.{EntryPart}
use Rattle.trio_layout.specs.declared.slot.SlotRead.{SlotRead}
use Rattle.trio_layout.specs.declared.slot.SlotRead.TheVariants.{Entry}
use Rattle.trio_auxdir.specs.declared.place.Place.{Place}
use Rattle.trio_auxdir.specs.Places.{first_empty, place_of as place_at_name}
use Rattle.trio_auxdir.specs.Slots.{slots_of}
use Rattle.trio_layout.specs.Body.{block_count}
use Rattle.trio_layout.specs.Chain.{Chain}
use Rattle.trio_lease.specs.Shown.{Shown, page_at}
use Rattle.trio_lease.specs.declared.parts.HoldParts.{HoldParts}
use Rattle.trio_nodes.specs.declared.call.Done.{Done}
use Rattle.trio_nodes.specs.declared.grant.GrantKind.{GrantKind}
use Rattle.trio_nodes.specs.declared.grant.GrantKind.TheVariants.{Read, Write, Hold}
use Rattle.trio_desk.specs.Out.{LibOut, Parcel, OutAlike, IsWellLent, page_numbers, ino_numbers}
use Rattle.trio_desk.specs.Call.{DeskSeen}
use Rattle.trio_desk.specs.Edits.{InHand, nothing}
use Rattle.trio_session.specs.Layout.{Home, InSlot, Leased, page_in, body_guarded, with_body_at, growth, grown_file, chain_grown, chain_cut, cleared as cleared_slot, cut_file, filled as filled_slot, put_bytes, retitled, size_in}

-- A file that the session made: a slot of a directory's page names it, and has its body; its pages are allotted ones.
pub record MadeFile : Type 0 where
  pub ino : ℕ
  pub kind : Kind
  pub page : ℕ
  pub slot : ℕ
  pub chain : Chain

-- For how many calls there are places, those that are there counted in; beside each written file and each that was made up to how many
-- blocks it may come by edits that take no memory; how many files may be made, those that were counted in, and up to how many blocks the
-- next new one may come; the directories whose index has a place for one block more; and those whose index has one for one name more.
pub record Room : Type 0 where
  pub calls : ℕ
  pub blocks : List ℕ
  pub made_blocks : List ℕ
  pub made : ℕ
  pub next_blocks : ℕ
  pub slots : List ℕ
  pub names : List ℕ

-- The library and its credentials; the parcel that it would hand in, each thing as it stands; beside each written file the numbers
-- of its index pages and blocks as they stand; the files that it made, and those of them whose slot was cleared since; the read
-- leases; the calls done. The first `placed` of the allotted pages are put in place. The directories that have their index, and how
-- many look-ups were made by one.
pub record SessionSeen : Type 0 where
  pub lib : LibNo
  pub creds : Creds
  pub parcel : Parcel
  pub chains : List Chain
  pub made : List MadeFile
  pub cleared : List MadeFile
  pub reads : List Shown
  pub calls : List Done
  pub placed : ℕ
  pub indexed : List ℕ
  pub finds : ℕ
  pub room : Room

-- a session that has nothing
abbrev pub emptied : SessionSeen → SessionSeen
emptied s = record s { parcel = nothing; chains = []; made = []; cleared = []; reads = []; calls = []; placed = 0; indexed = [] }

-- what it would hand in and give back
abbrev pub in_hand : SessionSeen → InHand
in_hand s = record { parcel = s.parcel; back = s.reads }

-- what it has of what was given to it, as a desk lists it
abbrev pub has_out : SessionSeen → LibOut
has_out s = record {
  writes = map (λ f. f.lent) s.parcel.writes;
  reads = s.reads;
  holds = s.parcel.holds;
  pages = page_numbers s.parcel.pages;
  numbers = ino_numbers s.parcel.inodes;
}

-- The desk's library and credentials are the session's, and its list is just what the session has. Each lease is as a grant gives it,
-- and each allotted page is a core page.
pub record IsOn (desk : DeskSeen) (s : SessionSeen) : Type 0 where
  pub lib : s.lib ≡ desk.lib
  pub creds : s.creds ≡ desk.creds
  pub out : OutAlike desk.out (has_out s)
  pub writes : (f : Shown) → In f (has_out s).writes → IsWellLent desk.sizes f
  pub reads : (f : Shown) → In f s.reads → IsWellLent desk.sizes f
  pub core : (n : ℕ) → In n (page_numbers s.parcel.pages) → IsTrue (is_core desk.sizes.range n)

-- a session that has nothing but read leases
pub record HasReadsAlone (s : SessionSeen) : Type 0 where
  pub parcel : s.parcel ≡ nothing
  pub calls : s.calls ≡ []

-- ---- files

-- the file of this number that is lent for writing, as it stands
abbrev pub written_file : SessionSeen → ℕ → Option Shown
written_file s ino = option_map (λ f. f.stands) (find (λ f. f.stands.ino == ino) s.parcel.writes)

-- the file of this number that is lent for reading
abbrev pub read_file : SessionSeen → ℕ → Option Shown
read_file s ino = find (λ f. f.ino == ino) s.reads

-- the hold on the file of this number
abbrev pub held_file : SessionSeen → ℕ → Option HoldParts
held_file s ino = find (λ h. h.ino == ino) s.parcel.holds

-- the file of this number that the session made
abbrev pub made_file : SessionSeen → ℕ → Option MadeFile
made_file s ino = find (λ m. m.ino == ino) s.made

-- its place among the written files, and among those that were made
abbrev pub place_in : SessionSeen → ℕ → Option ℕ
place_in s ino = position (λ f. f.stands.ino == ino) s.parcel.writes

abbrev pub made_place : SessionSeen → ℕ → Option ℕ
made_place s ino = position (λ m. m.ino == ino) s.made

-- a chain of no page
abbrev pub no_chain : Chain
no_chain = record { index = []; blocks = [] }

-- the chain of a file that is written or was made
abbrev pub chain_in : SessionSeen → ℕ → Chain
chain_in s ino =
    option_map_or (λ m. m.chain) (made_file s ino) (option_map_or (λ i. slice_index_or s.chains i no_chain) (place_in s ino) no_chain)

-- where its body stands
abbrev pub home_in : SessionSeen → ℕ → Home
home_in s ino = option_map_or (λ m. InSlot m.page m.slot) (made_file s ino) (Leased ino)

-- the body of a file that was made: its slot's
abbrev pub made_body : SessionSeen → MadeFile → List ℕ
made_body s m = body_in_slot m.slot (page_in s.parcel m.page)

-- the body of a file that is written or was made
abbrev pub body_in : SessionSeen → ℕ → List ℕ
body_in s ino = option_map_or (made_body s) (made_file s ino) (option_map_or (λ f. f.body) (written_file s ino) [])

-- the kind of such a file; None of any other
abbrev pub open_kind : SessionSeen → ℕ → Option Kind
open_kind s ino = option_or (option_map (λ m. m.kind) (made_file s ino)) (option_map (λ f. f.kind) (written_file s ino))

-- up to how many blocks it may come
abbrev pub room_in : SessionSeen → ℕ → ℕ
room_in s ino =
    option_map_or (λ i. slice_index_or s.room.made_blocks i 0) (made_place s ino)
    (option_map_or (λ i. slice_index_or s.room.blocks i 0) (place_in s ino) 0)

-- the kind of grant that the session has on a file, that of one for writing on a file that it made: the strongest where it has more
-- than one
abbrev pub grant_in : SessionSeen → ℕ → Option GrantKind
grant_in s ino =
    if is_some (open_kind s ino) then Some Write
    else (if is_some (held_file s ino) then Some Hold else (if is_some (read_file s ino) then Some Read else None))

-- A lease that the session has serves this need: its own kind, and one for writing serves reading too. A file that it made serves every
-- need.
abbrev pub serves : SessionSeen → ℕ → GrantKind → Bool
serves s ino Write = is_some (open_kind s ino)
serves s ino Hold = is_some (made_file s ino) || is_some (held_file s ino)
serves s ino Read = is_some (open_kind s ino) || is_some (read_file s ino)

-- the body of a file, as it stands where the session writes or made it, or else as it was lent for reading, or else as a hold shows it
abbrev pub body_shown : SessionSeen → ℕ → Option (List ℕ)
body_shown s ino =
    option_or (option_map (λ k. body_in s ino) (open_kind s ino))
    (option_or (option_map (λ f. f.body) (read_file s ino)) (option_map (λ h. h.body) (held_file s ino)))

-- a block of a file, counted from 0: by its chain as it stands where the session writes or made it, or else as it was lent for reading
abbrev pub block_shown : SessionSeen → ℕ → ℕ → Option (List ℕ)
block_shown s ino k =
    if is_some (open_kind s ino) then option_map (page_in s.parcel) (slice_get (chain_in s ino).blocks k)
    else option_and_then (λ f. page_at f.blocks k) (read_file s ino)

-- the blocks of a file that is lent for reading
abbrev pub dir_pages : Shown → List (List ℕ)
dir_pages f = map (λ p. p.page) f.blocks

-- any number of 32 bits counts as an inode number: what is lent is in the grammar of its own image
abbrev pub every_number : ℕ
every_number = 4294967295

-- the entry in a slot of its block; None where the slot is empty
abbrev pub entry_in : SlotRead → Option EntryPart
entry_in (Entry e) = Some e
entry_in other = None

-- the entry at a place of a directory, where its block and an entry are there
abbrev pub entry_shown : SessionSeen → ℕ → Place → Option EntryPart
entry_shown s dir place =
    option_and_then (λ bytes. entry_in (slot_of every_number (slot_bytes place.slot bytes))) (block_shown s dir place.block)

-- the kind of a file that is written, was made, or is lent for reading
abbrev pub kind_shown : SessionSeen → ℕ → Option Kind
kind_shown s ino = option_or (open_kind s ino) (option_map (λ f. f.kind) (read_file s ino))

-- the blocks of such a file, as they stand
abbrev pub pages_shown : SessionSeen → ℕ → List (List ℕ)
pages_shown s ino =
    if is_some (open_kind s ino) then map (page_in s.parcel) (chain_in s ino).blocks else option_map_or dir_pages (read_file s ino) []

-- the slots of a directory, as its blocks stand, each empty or with a name
abbrev pub slots_shown : SessionSeen → ℕ → List (Option (List ℕ))
slots_shown s dir = slots_of every_number (pages_shown s dir)

-- where a name stands among the slots of a file of this kind; what is no directory has no names
abbrev pub place_of : Option Kind → List (Option (List ℕ)) → List ℕ → Option Place
place_of (Some Directory) slots name = place_at_name name slots
place_of other slots name = None

-- where a name stands in a directory, read from the bytes of its blocks alone
abbrev pub place_shown : SessionSeen → ℕ → List ℕ → Option Place
place_shown s dir name = place_of (kind_shown s dir) (slots_shown s dir) name

-- how many of the slots have an entry
abbrev pub entry_count : List (Option (List ℕ)) → ℕ
entry_count slots = length (filter is_some slots)

-- the number of entries of a file that was made; what is no directory has none
abbrev pub made_children : SessionSeen → MadeFile → ℕ
made_children s m = if is_directory m.kind then entry_count (slots_shown s m.ino) else 0

-- the number of entries of a file that was made, or that a hold tells
abbrev pub children_shown : SessionSeen → ℕ → Option ℕ
children_shown s ino = option_or (option_map (made_children s) (made_file s ino)) (option_map (λ h. h.children) (held_file s ino))

-- the lower of two numbers, where there is a first
abbrev pub lower : Option ℕ → ℕ → Option ℕ
lower best n = Some (option_map_or (λ m. min m n) best n)

-- the lowest of some numbers and one before them
abbrev pub lowest_from : Option ℕ → List ℕ → Option ℕ
lowest_from best [] = best
lowest_from best (n ∷ ns) = lowest_from (lower best n) ns

abbrev pub lowest : List ℕ → Option ℕ
lowest ns = lowest_from None ns

-- the inode numbers that an edit has put in place
abbrev pub used_numbers : SessionSeen → List ℕ
used_numbers s = map (λ m. m.ino) (s.made ++ s.cleared)

-- those of the allotted ones that none has
abbrev pub spare_numbers : SessionSeen → List ℕ
spare_numbers s = filter (λ n. not (is_among n (used_numbers s))) (ino_numbers s.parcel.inodes)

-- the lowest of them
abbrev pub spare_number : SessionSeen → Option ℕ
spare_number s = lowest (spare_numbers s)

-- the pages that no edit has put in place, in the order in which they were allotted
abbrev pub spare_pages : SessionSeen → List ℕ
spare_pages s = drop s.placed (page_numbers s.parcel.pages)

-- ---- edits of one file

-- a file that was made has another chain
abbrev pub made_chained : ℕ → Chain → MadeFile → MadeFile
made_chained ino chain m = if m.ino == ino then record m { chain = chain } else m

-- with another chain of a file that is written or was made
abbrev pub with_chain : ℕ → Chain → SessionSeen → SessionSeen
with_chain ino chain s =
    if is_some (made_file s ino) then record s { made = map (made_chained ino chain) s.made }
    else record s { chains = option_map_or (λ i. slice_set s.chains i chain) (place_in s ino) s.chains }

-- The session after a growth: the file takes the first of the spare pages.
unfoldable pub grown : ℕ → ℕ → SessionSeen → SessionSeen
grown ino size s =
    let chain = chain_in s ino in
    let wanted = growth (length chain.blocks) (block_count size) in
    let taken = take wanted (spare_pages s) in
    record (with_chain ino (chain_grown chain (block_count size) taken) s) {
      parcel = grown_file (home_in s ino) chain (body_in s ino) size taken s.parcel;
      placed = s.placed + wanted;
    }

-- The session after a cut: what the file gives up stays in hand, and counts as put in place.
unfoldable pub cut : ℕ → ℕ → SessionSeen → SessionSeen
cut ino size s =
    let chain = chain_in s ino in
    record (with_chain ino (chain_cut chain (block_count size)) s) {
      parcel = cut_file (home_in s ino) chain (body_in s ino) size s.parcel;
    }

-- The session after a write.
unfoldable pub put : ℕ → ℕ → List ℕ → SessionSeen → SessionSeen
put ino at new s = record s { parcel = put_bytes (chain_in s ino).blocks at new s.parcel }

-- The session after the guard of a file was set.
unfoldable pub set_guard : ℕ → Bool → SessionSeen → SessionSeen
set_guard ino on s = record s { parcel = with_body_at (home_in s ino) (body_guarded on (body_in s ino)) s.parcel }

-- ---- edits of a directory's slots

-- the page of a directory's block
abbrev pub block_number : SessionSeen → ℕ → ℕ → ℕ
block_number s dir k = slice_index_or (chain_in s dir).blocks k 0

-- the first empty slot of a directory, in the order of block and slot
abbrev pub empty_shown : SessionSeen → ℕ → Option Place
empty_shown s dir = first_empty (slots_shown s dir)

-- a file of this number whose slot was cleared
abbrev pub cleared_file : SessionSeen → ℕ → Option MadeFile
cleared_file s ino = find (λ m. m.ino == ino) s.cleared

-- the chain that a number of the allotment brings: that of a file whose slot was cleared, and none of a new one
abbrev pub kept_chain : SessionSeen → ℕ → Chain
kept_chain s ino = option_map_or (λ m. m.chain) (cleared_file s ino) no_chain

-- An allotted number is put into a slot, with its chain.
abbrev pub placed_made : SessionSeen → ℕ → Kind → ℕ → ℕ → MadeFile
placed_made s ino kind page slot = record { ino = ino; kind = kind; page = page; slot = slot; chain = kept_chain s ino }

-- the number is one of the allotted ones
abbrev pub is_allotted : SessionSeen → ℕ → Bool
is_allotted s ino = is_among ino (ino_numbers s.parcel.inodes)

-- a slot that is filled makes a file of an allotted number; of a held file it says where it is now
abbrev pub with_made : ℕ → Kind → ℕ → ℕ → SessionSeen → SessionSeen
with_made ino kind page slot s =
    if is_allotted s ino then record s { made = s.made ++ placed_made s ino kind page slot ∷ []; cleared = filter (λ m. not (m.ino == ino)) s.cleared } else s

-- The session after a slot of a directory was filled, at this place.
abbrev pub filled_at : ℕ → Place → EntryPart → List ℕ → SessionSeen → SessionSeen
filled_at dir place e body s =
    let page = block_number s dir place.block in
    record (with_made e.ino e.kind page place.slot s) { parcel = filled_slot page place.slot e body s.parcel }

-- It is the first empty one.
unfoldable pub fill : ℕ → List ℕ → ℕ → Kind → List ℕ → SessionSeen → SessionSeen
fill dir name ino kind body s =
    option_map_or (λ place. filled_at dir place (record { ino = ino; kind = kind; name = name }) body s) (empty_shown s dir) s

-- a file that was made and whose slot is cleared is none of those made any more
abbrev pub without_made : ℕ → SessionSeen → SessionSeen
without_made ino s =
    record s { made = filter (λ m. not (m.ino == ino)) s.made; cleared = s.cleared ++ filter (λ m. m.ino == ino) s.made }

-- the number that a place of a directory names, 0 where it names none
abbrev pub number_shown : SessionSeen → ℕ → Place → ℕ
number_shown s dir place = option_map_or (λ e. e.ino) (entry_shown s dir place) 0

-- The session after the slot of a name was cleared.
unfoldable pub clear : ℕ → List ℕ → SessionSeen → SessionSeen
clear dir name s =
    option_map_or (λ place. record (without_made (number_shown s dir place) s) { parcel = cleared_slot (block_number s dir place.block) place.slot s.parcel })
    (place_shown s dir name) s

-- an entry with another name
abbrev pub renamed : List ℕ → EntryPart → EntryPart
renamed name e = record e { name = name }

-- The session after a name became another in its slot.
unfoldable pub retitle : ℕ → List ℕ → List ℕ → SessionSeen → SessionSeen
retitle dir old new s =
    option_map_or (λ place. option_map_or (λ e. record s { parcel = retitled (block_number s dir place.block) place.slot (renamed new e) s.parcel })
    (entry_shown s dir place) s) (place_shown s dir old) s

-- ---- conditions of edits

-- the session has this file for writing, or made it, and it is no directory
abbrev pub IsOpen : SessionSeen → ℕ → Type 0
IsOpen s ino = option_map is_directory (open_kind s ino) ≡ Some false

-- it is a regular file
abbrev pub IsOpenFile : SessionSeen → ℕ → Type 0
IsOpenFile s ino = open_kind s ino ≡ Some Regular

-- and this directory, with its index
pub record IsOpenDir (s : SessionSeen) (ino : ℕ) : Type 0 where
  pub directory : open_kind s ino ≡ Some Directory
  pub index : In ino s.indexed

-- A directory with its index grows to a size of whole blocks, by no more than the one for which its index has a place.
pub record MayGrowDir (s : SessionSeen) (ino size : ℕ) : Type 0 where
  pub dir : IsOpenDir s ino
  pub whole : size % 4096 ≡ 0
  pub one : block_count size ≤ length (chain_in s ino).blocks + 1
  pub place : In ino s.room.slots

-- a regular file or a link grows to any size
abbrev pub MayGrow : SessionSeen → ℕ → ℕ → Type 0
MayGrow s ino size = IsOpen s ino ⊎ MayGrowDir s ino size

-- What an allotted number brings into a slot: the session has nothing else on it; of a file whose slot was cleared it brings the kind
-- that the file had, and a body that says as many blocks as the file has, of a new one none; a directory has whole blocks.
pub record MayBeMade (s : SessionSeen) (ino : ℕ) (kind : Kind) (body : List ℕ) : Type 0 where
  pub nothing : grant_in s ino ≡ None
  pub same : option_map_or (λ m. m.kind) (cleared_file s ino) kind ≡ kind
  pub blocks : block_count (size_in body) ≡ length (kept_chain s ino).blocks
  pub whole : kind ≡ Directory → size_in body % 4096 ≡ 0
  pub place : length s.made < s.room.made

-- An edit of a file leaves room: for calls, and in the indexes of other directories.
pub record LeavesRoom (dir : ℕ) (s s' : SessionSeen) : Type 0 where
  pub calls : s'.room.calls ≡ s.room.calls
  pub slots : (n : ℕ) → n ≢ dir → In n s.room.slots → In n s'.room.slots
  pub names : (n : ℕ) → n ≢ dir → In n s.room.names → In n s'.room.names

-- where there is room for one file to be made, there still is
abbrev pub LeavesPlace : SessionSeen → SessionSeen → Type 0
LeavesPlace s s' = length s.made < s.room.made → length s'.made < s'.room.made

-- no room was lost
pub record KeepsRoom (s s' : SessionSeen) : Type 0 where
  pub calls : s.room.calls ≤ s'.room.calls
  pub blocks : (n : ℕ) → room_in s n ≤ room_in s' n
  pub made : s.room.made ≤ s'.room.made
  pub next : s.room.next_blocks ≤ s'.room.next_blocks
  pub slots : (n : ℕ) → In n s.room.slots → In n s'.room.slots
  pub names : (n : ℕ) → In n s.room.names → In n s'.room.names
