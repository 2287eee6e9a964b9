-- The files that a session has open, written or made, as they stand, and what it keeps from one call to the next.
use Rattle.std.specs.Prelude.{◌≡◌, ℕ, ◌<◌, ◌≤◌, is_some, IsTrue, List, [], ◌++◌, length, map, slice_index_or, take, Option, None, Some, Ok}
use Rattle.std.specs.List.{flat_map}
use Rattle.trio_rights.specs.Row.{Row}
use Rattle.trio_lists.specs.Lists.{In, are_new}
use Rattle.trio_rights.specs.declared.kind.Kind.{Kind}
use Rattle.trio_rights.specs.declared.kind.Kind.TheVariants.{Directory}
use Rattle.trio_layout.specs.declared.body.Body.{Body}
use Rattle.trio_layout.specs.declared.slot.EntryPart.{EntryPart}
use Rattle.trio_layout.specs.declared.slot.SlotRead.TheVariants.{Entry}
use Rattle.trio_layout.specs.Body.{block_count, body_at, body_of}
use Rattle.trio_layout.specs.Entries.{Listed, slot_bytes}
use Rattle.trio_layout.specs.Slot.{slot_of}
use Rattle.trio_layout.specs.Survey.{FileRead, Met}
use Rattle.trio_layout.specs.Case.{file_in}
use Rattle.trio_layout.specs.JudgedFiles.{judged_files}
use Rattle.trio_lease.specs.Shown.{Shown}
use Rattle.trio_lease.specs.declared.parts.HoldParts.{HoldParts}
use Rattle.trio_nodes.specs.Nodes.{Nodes, node_at}
use Rattle.trio_desk.specs.Agrees.{HasRights}
use Rattle.trio_desk.specs.Call.{DeskSeen}
use Rattle.trio_desk.specs.Contents.{rights_in}
use Rattle.trio_desk.specs.Edits.{MayShow}
use Rattle.trio_desk.specs.Out.{Parcel, ino_numbers}
use Rattle.trio_desk.specs.Ready.{ArePossible, HandsInAll}
use Rattle.trio_edit_laws.specs.session.Chains.{IsNamed}
use Rattle.trio_laws.specs.session.FileEdits.{core_in_hand}
use Rattle.trio_laws.specs.session.Takes.{IsInOrder, case_as_stands, pages_in_hand}
use Rattle.trio_laws.specs.session.Sees.{AboveIsOpen, IsLeftAlone}
use Rattle.trio_session.specs.Layout.{page_in, size_in}
use Rattle.trio_session.specs.Seen.{MadeFile, SessionSeen, IsOn, body_in, chain_in, every_number, held_file, in_hand, made_body, made_file, open_kind, read_file, written_file}

-- A file that is open has a body of its kind, and the chain that the session keeps of it: the body names its head, its index pages name
-- its blocks, and there are as many as its size wants. What the slots of a directory say is none of this.
pub record ReadsBy (desk : DeskSeen) (s : SessionSeen) (ino : ℕ) (kind : Kind) : Type 0 where
  pub body : Body
  pub is : body_of kind desk.sizes.range (body_in s ino) ≡ Some body
  pub count : block_count body.size ≡ length (chain_in s ino).blocks
  pub head : body.head ≡ slice_index_or (chain_in s ino).index 0 0
  pub named : IsNamed (core_in_hand desk (in_hand s)) (chain_in s ino).index (chain_in s ino).blocks

-- so does each
abbrev pub ChainsRead : DeskSeen → SessionSeen → Type 0
ChainsRead desk s = (ino : ℕ) (kind : Kind) → open_kind s ino ≡ Some kind → ReadsBy desk s ino kind

-- the pages of the chains that a session keeps
abbrev pub chained : SessionSeen → List ℕ
chained s = flat_map (λ c. c.index ++ c.blocks) (s.chains ++ map (λ m. m.chain) s.made)

-- ---- files that were made

-- a file that was made as it is judged, in the directory of this number
abbrev pub made_met : SessionSeen → ℕ → MadeFile → Met
made_met s directory m =
    record { ino = m.ino; kind = m.kind; parent = directory; page = m.page; slot = m.slot; body = made_body s m }

-- it is judged
pub record IsJudgedMade (desk : DeskSeen) (s : SessionSeen) (m : MadeFile) : Type 0 where
  pub directory : ℕ
  pub judged : In (made_met s directory m) (judged_files (case_as_stands desk (in_hand s)))

-- its slot lies in a block of a directory that is open, and names it
pub record IsInSlot (s : SessionSeen) (m : MadeFile) : Type 0 where
  pub directory : ℕ
  pub opens : open_kind s directory ≡ Some Directory
  pub block : In m.page (chain_in s directory).blocks
  pub slot : m.slot < 16
  pub entry : EntryPart
  pub says : slot_of every_number (slot_bytes m.slot (page_in s.parcel m.page)) ≡ Entry entry
  pub number : entry.ino ≡ m.ino
  pub kind : entry.kind ≡ m.kind

-- the session has no lease on the file: it is neither written nor held, nor read
pub record IsUnlent (s : SessionSeen) (n : ℕ) : Type 0 where
  pub written : written_file s n ≡ None
  pub held : held_file s n ≡ None
  pub read : read_file s n ≡ None

-- The files that a session made have numbers of its allotments, each its own and none of a lease, and slots that name them; those whose
-- slot was cleared have such numbers too. As long as any nodes are possible, they are just the judged files of such numbers.
pub record AreMade (desk : DeskSeen) (s : SessionSeen) : Type 0 where
  pub numbers : (m : MadeFile) → In m s.made → In m.ino (ino_numbers s.parcel.inodes)
  pub gone : (m : MadeFile) → In m s.cleared → In m.ino (ino_numbers s.parcel.inodes)
  pub once : IsTrue (are_new [] (map (λ m. m.ino) (s.made ++ s.cleared)))
  pub apart : (m : MadeFile) → In m s.made → IsUnlent s m.ino
  pub slots : (m : MadeFile) → In m s.made → IsInSlot s m
  pub judged :
      (nodes : Nodes) (rows : List (Option Row)) → ArePossible desk s.parcel s.reads nodes rows
      → (m : MadeFile) → In m s.made → IsJudgedMade desk s m
  pub only :
      (nodes : Nodes) (rows : List (Option Row)) → ArePossible desk s.parcel s.reads nodes rows
      → (x : Met) → In x (judged_files (case_as_stands desk (in_hand s))) → In x.ino (ino_numbers s.parcel.inodes)
      → IsTrue (is_some (made_file s x.ino))

-- ---- entries

-- An entry of a directory that is open, but one of an allotted number, shows in its slot the rights that its file has.
abbrev pub EntriesHaveRights : DeskSeen → SessionSeen → Type 0
EntriesHaveRights desk s =
    (nodes : Nodes) (rows : List (Option Row)) (x : Met) (file : FileRead) (l : Listed)
    → ArePossible desk s.parcel s.reads nodes rows
    → In x (judged_files (case_as_stands desk (in_hand s))) → file_in (case_as_stands desk (in_hand s)) x ≡ Ok file
    → In l file.entries → (In l.entry.ino (ino_numbers s.parcel.inodes) → ⊥)
    → HasRights (rights_in l.entry.kind l.body) (node_at nodes l.entry.ino)

-- ---- what is kept

-- whatever nodes are possible, the session shows one tree in their place
abbrev pub ShowsTrees : DeskSeen → SessionSeen → Type 0
ShowsTrees desk s =
    (nodes : Nodes) (rows : List (Option Row)) → ArePossible desk s.parcel s.reads nodes rows
    → (nodes' : Nodes) × MayShow desk (in_hand s) (in_hand s) nodes nodes' rows

-- each hold has a body in the grammar, and the allotted numbers are among the image's
pub record IsWellGiven (desk : DeskSeen) (b : Parcel) : Type 0 where
  pub holds : (h : HoldParts) → In h b.holds → body_of h.kind desk.sizes.range h.body ≡ Some (body_at h.body)
  pub numbers : (n : ℕ) → In n (ino_numbers b.inodes) → (0 < n) × (n ≤ desk.sizes.inodes)

-- What a session keeps from one call to the next: it stands on its desk, all that is out is in hand and in order, and shows a tree; a file
-- that it reads is neither written nor held; the files that it has open read by the chains that it keeps of them; each page of the chains
-- is in hand, and stands in them once; of the allotted pages some are in place; the files that it made and the entries of its directories
-- are as they should be; and each directory above a held file gives reading.
pub record MayEdit (desk : DeskSeen) (s : SessionSeen) : Type 0 where
  pub on : IsOn desk s
  pub all : HandsInAll desk.out s.parcel s.reads
  pub given : IsWellGiven desk s.parcel
  pub order : IsInOrder desk (in_hand s)
  pub shows : ShowsTrees desk s
  pub alone : (f : Shown) → In f s.reads → IsLeftAlone (in_hand s) f.ino
  pub beside : length s.chains ≡ length s.parcel.writes
  pub chains : ChainsRead desk s
  pub own : (page : ℕ) → In page (chained s) → In page (pages_in_hand (in_hand s))
  pub once : IsTrue (are_new [] (chained s))
  pub placed : s.placed ≤ length s.parcel.pages
  pub made : AreMade desk s
  pub entries : EntriesHaveRights desk s
  pub held :
      (h : HoldParts) (nodes : Nodes) (rows : List (Option Row)) → In h s.parcel.holds
      → ArePossible desk s.parcel s.reads nodes rows → AboveIsOpen nodes desk.creds h.ino

-- the bytes that a session reads of a file that it has open: those of its blocks, up to its size
abbrev pub bytes_in : SessionSeen → ℕ → List ℕ
bytes_in s ino = take (size_in (body_in s ino)) (flat_map (page_in s.parcel) (chain_in s ino).blocks)
