-- What a session sees of its directories, and what its edits of their slots come to.
use Rattle.std.specs.Prelude.{◌≡◌, ◌≢◌, ℕ, ◌<◌, ◌≤◌, ◌==◌, not, false, is_some, IsTrue, List, [], ◌∷◌, drop, length, slice_set, Option, None, Some}
use Rattle.std.specs.List.{filter}
use Rattle.std.specs.Option.{option_map}
use Rattle.trio_names.specs.Name.{is_name}
use Rattle.trio_rights.specs.Row.{Row}
use Rattle.trio_rights.specs.declared.kind.Kind.{Kind}
use Rattle.trio_rights.specs.declared.kind.Kind.TheVariants.{Directory, Link, Regular}
use Rattle.trio_lists.specs.Lists.{In}
use Rattle.trio_layout.specs.declared.body.Body.{Body}
use Rattle.trio_layout.specs.Body.{body_of}
use Rattle.trio_layout.specs.Entries.{body_in_slot}
use Rattle.trio_layout.specs.declared.slot.EntryPart.{EntryPart}
use Rattle.trio_auxdir.specs.declared.place.Place.{Place}
use Rattle.trio_auxdir.specs.Places.{slot_number}
use Rattle.trio_lease.specs.declared.parts.HoldParts.{HoldParts}
use Rattle.trio_nodes.specs.declared.node.Node.{Node}
use Rattle.trio_nodes.specs.Nodes.{Nodes, count_in, find_named, names_in, node_at, with_node}
use Rattle.trio_desk.specs.Agrees.{HasRights}
use Rattle.trio_desk.specs.Call.{DeskSeen}
use Rattle.trio_desk.specs.Contents.{AreWithinLimits, rights_in}
use Rattle.trio_desk.specs.Edits.{MayShow}
use Rattle.trio_desk.specs.Out.{ino_numbers}
use Rattle.trio_laws.specs.session.Takes.{Becomes}
use Rattle.trio_edit_laws.specs.session.SlotEdits.{KeepsTree, moved, retitled, with_changed}
use Rattle.trio_session.specs.Seen.{MadeFile, SessionSeen, IsOpenDir, block_shown, body_in, chain_in, children_shown, clear, cleared_file, empty_shown, entry_count, entry_shown, fill, grant_in, held_file, in_hand, made_body, made_file, number_shown, open_kind, place_shown, retitle, slots_shown, spare_numbers, spare_pages}
use Rattle.trio_edit_laws.specs.Written.{MayEdit}
use Rattle.trio_edit_laws.specs.EditLaws.{AreSpare}
use Rattle.trio_session.specs.Deeds.{link_made, names_here}

-- ---- what is seen of a directory

-- What a session sees of a directory that it has open is so in these nodes: its rights by its body; what a name is, how many entries there
-- are and their names by its slots; and the kind and the rights of each entry's file by its slot. An allotted number that an entry names
-- is that of a file that the session made.
pub record IsSeen (s : SessionSeen) (dir : ℕ) (nodes : Nodes) : Type 0 where
  pub rights : HasRights (rights_in Directory (body_in s dir)) (node_at nodes dir)
  pub named : (name : List ℕ) → find_named nodes dir name ≡ option_map (number_shown s dir) (place_shown s dir name)
  pub count : count_in nodes dir ≡ entry_count (slots_shown s dir)
  pub names : names_in nodes dir ≡ names_here s dir
  pub entries :
      (place : Place) (e : EntryPart) (page : List ℕ) → place.slot < 16 → block_shown s dir place.block ≡ Some page
      → entry_shown s dir place ≡ Some e → HasRights (rights_in e.kind (body_in_slot place.slot page)) (node_at nodes e.ino)
  pub made :
      (place : Place) (e : EntryPart) → place.slot < 16 → entry_shown s dir place ≡ Some e
      → In e.ino (ino_numbers s.parcel.inodes) → IsTrue (is_some (made_file s e.ino))

-- So it is in all nodes that are shown.
abbrev pub SeesDirectory : Type 0
SeesDirectory =
    (desk : DeskSeen) (s : SessionSeen) (dir : ℕ) (nodes nodes' : Nodes) (rows : List (Option Row))
    → MayEdit desk s → open_kind s dir ≡ Some Directory → MayShow desk (in_hand s) (in_hand s) nodes nodes' rows
    → IsSeen s dir nodes'

-- ---- edits

-- By an edit of directories the nodes that are shown change so, and the session may go on.
pub record Changes (desk : DeskSeen) (s s' : SessionSeen) (change : Nodes → Nodes) : Type 0 where
  pub becomes : Becomes desk (in_hand s) (in_hand s') change
  pub may : MayEdit desk s'

-- the nodes so changed are one tree still
abbrev pub StaysTree : DeskSeen → SessionSeen → SessionSeen → (Nodes → Nodes) → Type 0
StaysTree desk s s' change = KeepsTree desk (in_hand s) (in_hand s') change

-- a new file in a directory, with this body and no bytes
abbrev pub node_made : ℕ → List ℕ → Kind → Body → Node
node_made dir name kind b = record { parent = dir; name = name; kind = kind; mode = b.mode; uid = b.uid; gid = b.gid; guard = b.guard; bytes = [] }

-- the body of an empty file of the library's, which isn't guarded
pub record IsEmptyBody (desk : DeskSeen) (kind : Kind) (body : List ℕ) (b : Body) : Type 0 where
  pub is : body_of kind desk.sizes.range body ≡ Some b
  pub size : b.size ≡ 0
  pub guard : b.guard ≡ false
  pub uid : b.uid ≡ desk.creds.uid
  pub gid : b.gid ≡ desk.creds.gid

-- A spare number and a name that the directory hasn't are put into its first empty slot: there is a new file.
abbrev pub FillShows : Type 0
FillShows =
    (desk : DeskSeen) (s : SessionSeen) (dir : ℕ) (place : Place) (name : List ℕ) (n : ℕ) (kind : Kind) (body : List ℕ) (b : Body)
    → let s' = fill dir name n kind body s in let change : Nodes → Nodes = λ nodes. with_node nodes n (Some (node_made dir name kind b)) in
    AreWithinLimits desk.sizes → MayEdit desk s → IsOpenDir s dir
    → empty_shown s dir ≡ Some place → place_shown s dir name ≡ None → IsTrue (is_name name)
    → In n (spare_numbers s) → grant_in s n ≡ None
    → IsEmptyBody desk kind body b → StaysTree desk s s' change
    → Changes desk s s' change

-- a new link in a directory, with this body and this text
abbrev pub link_node : ℕ → List ℕ → Body → List ℕ → Node
link_node dir name b text = record (node_made dir name Link b) { bytes = text }

-- A spare number and a name that the directory hasn't are put into its first empty slot, with the body of an empty file, and then a text
-- into two spare pages: there is a new link.
abbrev pub LinkShows : Type 0
LinkShows =
    (desk : DeskSeen) (s : SessionSeen) (dir : ℕ) (place : Place) (name : List ℕ) (n : ℕ) (body : List ℕ) (b : Body) (text : List ℕ)
    → let s' = link_made dir name n body text s in let change : Nodes → Nodes = λ nodes. with_node nodes n (Some (link_node dir name b text)) in
    AreWithinLimits desk.sizes → MayEdit desk s → AreSpare desk s → IsOpenDir s dir
    → empty_shown s dir ≡ Some place → place_shown s dir name ≡ None → IsTrue (is_name name)
    → In n (spare_numbers s) → grant_in s n ≡ None
    → IsEmptyBody desk Regular body b → 0 < length text → length text ≤ 4096 → 2 ≤ length (spare_pages s)
    → StaysTree desk s s change
    → Changes desk s s' change

-- An entry gets another name, which the directory hasn't.
abbrev pub RetitleShows : Type 0
RetitleShows =
    (desk : DeskSeen) (s : SessionSeen) (dir : ℕ) (place : Place) (e : EntryPart) (old new : List ℕ)
    → let s' = retitle dir old new s in let change = with_changed e.ino (retitled new) in
    MayEdit desk s → IsOpenDir s dir
    → place_shown s dir old ≡ Some place → entry_shown s dir place ≡ Some e → place_shown s dir new ≡ None → IsTrue (is_name new)
    → StaysTree desk s s' change
    → Changes desk s s' change

-- The slot of a name is cleared, of a file that was made or is held, without entries: the file is gone.
abbrev pub ClearShows : Type 0
ClearShows =
    (desk : DeskSeen) (s : SessionSeen) (dir : ℕ) (place : Place) (e : EntryPart) (name : List ℕ)
    → let s' = clear dir name s in let change : Nodes → Nodes = λ nodes. with_node nodes e.ino None in
    MayEdit desk s → IsOpenDir s dir
    → place_shown s dir name ≡ Some place → entry_shown s dir place ≡ Some e → children_shown s e.ino ≡ Some 0
    → StaysTree desk s s' change
    → Changes desk s s' change

-- The kind and the body that a file takes with it into another directory: of one that was made its own, and the body of its slot; of a held
-- one, which has none of the allotted numbers, those of its hold.
pub data IsMoved (s : SessionSeen) (n : ℕ) (kind : Kind) (body : List ℕ) : Type 0 where
  AsMade : (m : MadeFile) → made_file s n ≡ Some m → kind ≡ m.kind → body ≡ made_body s m → IsMoved s n kind body
  AsHeld :
      (h : HoldParts) → made_file s n ≡ None → (In n (ino_numbers s.parcel.inodes) → ⊥) → held_file s n ≡ Some h → kind ≡ h.kind → body ≡ h.body
      → IsMoved s n kind body

-- The slot of a name is cleared, and the first empty slot of another directory, which isn't the file itself, is filled with its file, by a
-- name that this hasn't: the file is there.
abbrev pub MoveShows : Type 0
MoveShows =
    (desk : DeskSeen) (s : SessionSeen) (dir dir2 : ℕ) (place place2 : Place) (e : EntryPart) (old new : List ℕ) (kind : Kind) (body : List ℕ)
    → let s' = fill dir2 new e.ino kind body (clear dir old s) in let change = with_changed e.ino (moved dir2 new) in
    MayEdit desk s → IsOpenDir s dir → IsOpenDir s dir2 → dir ≢ dir2 → dir2 ≢ e.ino
    → place_shown s dir old ≡ Some place → entry_shown s dir place ≡ Some e
    → empty_shown s dir2 ≡ Some place2 → place_shown s dir2 new ≡ None → IsTrue (is_name new) → IsMoved s e.ino kind body
    → StaysTree desk s s' change
    → Changes desk s s' change

-- ---- what they leave

-- An edit of slots of these directories, of an entry of this number, leaves this of all else: which files are open, with their chains and
-- bodies; of every other file that is looked at, lent or not, its blocks, its slots and its entries; and the pages that are spare.
pub record LeavesFiles (s s' : SessionSeen) (dirs : List ℕ) (ino : ℕ) : Type 0 where
  pub same : s' ≡ record s { parcel = s'.parcel; made = s'.made; cleared = s'.cleared }
  pub opens : (n : ℕ) → n ≢ ino → open_kind s' n ≡ open_kind s n
  pub chains : (n : ℕ) → n ≢ ino → chain_in s' n ≡ chain_in s n
  pub bodies : (n : ℕ) → n ≢ ino → body_in s' n ≡ body_in s n
  pub blocks : (n k : ℕ) → n ≢ ino → (In n dirs → ⊥) → block_shown s' n k ≡ block_shown s n k
  pub slots : (n : ℕ) → n ≢ ino → (In n dirs → ⊥) → slots_shown s' n ≡ slots_shown s n
  pub places : (n : ℕ) (name : List ℕ) → n ≢ ino → (In n dirs → ⊥) → place_shown s' n name ≡ place_shown s n name
  pub entries : (n : ℕ) (place : Place) → n ≢ ino → (In n dirs → ⊥) → entry_shown s' n place ≡ entry_shown s n place
  pub pages : spare_pages s' ≡ spare_pages s
  pub inodes : s'.parcel.inodes ≡ s.parcel.inodes
  pub holds : s'.parcel.holds ≡ s.parcel.holds

-- A directory has this in the slot at a place, an entry or none; each other slot has what it had.
pub record HasSlot (s s' : SessionSeen) (dir : ℕ) (place : Place) (now : Option EntryPart) : Type 0 where
  pub slots : slots_shown s' dir ≡ slice_set (slots_shown s dir) (slot_number place) (option_map (λ e. e.name) now)
  pub entry : entry_shown s' dir place ≡ now
  pub others : (other : Place) → (other.block ≡ place.block → other.slot ≢ place.slot) → entry_shown s' dir other ≡ entry_shown s dir other

-- A fill: the directory has the entry, and its number is spare no more.
pub record LeavesFilled (s s' : SessionSeen) (dir : ℕ) (place : Place) (e : EntryPart) : Type 0 where
  pub files : LeavesFiles s s' (dir ∷ []) e.ino
  pub slot : HasSlot s s' dir place (Some e)
  pub numbers : spare_numbers s' ≡ filter (λ k. not (k == e.ino)) (spare_numbers s)

-- A fill leaves just that.
abbrev pub FillLeaves : Type 0
FillLeaves =
    (desk : DeskSeen) (s : SessionSeen) (dir : ℕ) (place : Place) (name : List ℕ) (n : ℕ) (kind : Kind) (body : List ℕ) (b : Body)
    → AreWithinLimits desk.sizes → MayEdit desk s → IsOpenDir s dir
    → empty_shown s dir ≡ Some place → place_shown s dir name ≡ None → IsTrue (is_name name)
    → In n (spare_numbers s) → grant_in s n ≡ None → IsEmptyBody desk kind body b
    → LeavesFilled s (fill dir name n kind body s) dir place (record { ino = n; kind = kind; name = name })

-- A link that is made leaves the calls and the numbers that were allotted; its own number and the first two spare pages are spare no more.
pub record LeavesLink (s s' : SessionSeen) (n : ℕ) : Type 0 where
  pub calls : s'.calls ≡ s.calls
  pub inodes : s'.parcel.inodes ≡ s.parcel.inodes
  pub pages : spare_pages s' ≡ drop 2 (spare_pages s)
  pub numbers : spare_numbers s' ≡ filter (λ k. not (k == n)) (spare_numbers s)

-- It leaves just that.
abbrev pub LinkLeaves : Type 0
LinkLeaves =
    (desk : DeskSeen) (s : SessionSeen) (dir : ℕ) (place : Place) (name : List ℕ) (n : ℕ) (body : List ℕ) (b : Body) (text : List ℕ)
    → AreWithinLimits desk.sizes → MayEdit desk s → IsOpenDir s dir
    → empty_shown s dir ≡ Some place → place_shown s dir name ≡ None → IsTrue (is_name name)
    → In n (spare_numbers s) → grant_in s n ≡ None
    → IsEmptyBody desk Regular body b → 0 < length text → length text ≤ 4096 → 2 ≤ length (spare_pages s)
    → LeavesLink s (link_made dir name n body text s) n

-- A retitle: the entry has the other name.
pub record LeavesRetitled (s s' : SessionSeen) (dir : ℕ) (place : Place) (e : EntryPart) : Type 0 where
  pub files : LeavesFiles s s' (dir ∷ []) e.ino
  pub slot : HasSlot s s' dir place (Some e)
  pub numbers : spare_numbers s' ≡ spare_numbers s

-- A retitle leaves just that.
abbrev pub RetitleLeaves : Type 0
RetitleLeaves =
    (desk : DeskSeen) (s : SessionSeen) (dir : ℕ) (place : Place) (e : EntryPart) (old new : List ℕ)
    → MayEdit desk s → IsOpenDir s dir
    → place_shown s dir old ≡ Some place → entry_shown s dir place ≡ Some e → place_shown s dir new ≡ None → IsTrue (is_name new)
    → LeavesRetitled s (retitle dir old new s) dir place (record e { name = new })

-- A clear, of any entry: the slot is empty, if the directory isn't the file itself; and if its file was made, the session has nothing on it,
-- and it counts as one whose slot was cleared.
pub record LeavesCleared (s s' : SessionSeen) (dir : ℕ) (place : Place) (ino : ℕ) : Type 0 where
  pub files : LeavesFiles s s' (dir ∷ []) ino
  pub slot : dir ≢ ino → HasSlot s s' dir place None
  pub gone : (m : MadeFile) → made_file s ino ≡ Some m → (grant_in s' ino ≡ None) × (cleared_file s' ino ≡ Some m)
  pub numbers : spare_numbers s' ≡ spare_numbers s

-- A clear leaves just that.
abbrev pub ClearLeaves : Type 0
ClearLeaves =
    (desk : DeskSeen) (s : SessionSeen) (dir : ℕ) (place : Place) (e : EntryPart) (name : List ℕ)
    → MayEdit desk s → IsOpenDir s dir → place_shown s dir name ≡ Some place → entry_shown s dir place ≡ Some e
    → LeavesCleared s (clear dir name s) dir place e.ino

-- A move: the one slot is empty, the other has the entry, and the file is open as it was.
pub record LeavesMoved (s s' : SessionSeen) (dir dir2 : ℕ) (place place2 : Place) (e : EntryPart) : Type 0 where
  pub files : LeavesFiles s s' (dir ∷ dir2 ∷ []) e.ino
  pub opens : open_kind s' e.ino ≡ open_kind s e.ino
  pub chain : chain_in s' e.ino ≡ chain_in s e.ino
  pub body : body_in s' e.ino ≡ body_in s e.ino
  pub from : HasSlot s s' dir place None
  pub to : HasSlot s s' dir2 place2 (Some e)
  pub numbers : spare_numbers s' ≡ spare_numbers s

-- A move leaves just that.
abbrev pub MoveLeaves : Type 0
MoveLeaves =
    (desk : DeskSeen) (s : SessionSeen) (dir dir2 : ℕ) (place place2 : Place) (e : EntryPart) (old new : List ℕ) (kind : Kind) (body : List ℕ)
    → MayEdit desk s → IsOpenDir s dir → IsOpenDir s dir2 → dir ≢ dir2 → dir2 ≢ e.ino
    → place_shown s dir old ≡ Some place → entry_shown s dir place ≡ Some e
    → empty_shown s dir2 ≡ Some place2 → place_shown s dir2 new ≡ None → IsTrue (is_name new) → IsMoved s e.ino kind body
    → LeavesMoved s (fill dir2 new e.ino kind body (clear dir old s)) dir dir2 place place2 (record { ino = e.ino; kind = kind; name = new })
