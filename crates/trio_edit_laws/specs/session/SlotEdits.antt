-- Slots of directories are written anew: a file is made, renamed, removed or moved, and the nodes that are shown change so.
use Rattle.std.specs.Prelude.{◌≡◌, ◌≢◌, ◌⊎◌, ◌↔◌, false, ℕ, ◌<◌, ◌*◌, ◌==◌, List, [], ◌∷◌, map, length, Option, None, Some, Ok, IsTrue}
use Rattle.std.specs.List.{find}
use Rattle.std.specs.Option.{option_map}
use Rattle.trio_page.specs.Field.{with_part}
use Rattle.trio_rights.specs.Row.{Row}
use Rattle.trio_rights.specs.declared.kind.Kind.TheVariants.{Directory}
use Rattle.trio_rights.specs.declared.kind.Kind.{Kind}
use Rattle.trio_rights.specs.ByKind.{is_directory}
use Rattle.trio_lists.specs.Lists.{In, are_new}
use Rattle.trio_layout.specs.declared.body.Body.{Body}
use Rattle.trio_layout.specs.declared.slot.EntryPart.{EntryPart}
use Rattle.trio_layout.specs.declared.slot.SlotRead.{SlotRead}
use Rattle.trio_layout.specs.declared.slot.SlotRead.TheVariants.{Empty, Entry}
use Rattle.trio_layout.specs.Body.{body_at, body_of}
use Rattle.trio_layout.specs.Core.{page_of}
use Rattle.trio_layout.specs.Entries.{Listed, body_in_slot, slot_bytes}
use Rattle.trio_layout.specs.Slot.{slot_of}
use Rattle.trio_layout.specs.Survey.{FileRead, Met, plain, met_in}
use Rattle.trio_layout.specs.Case.{file_in}
use Rattle.trio_layout.specs.JudgedFiles.{judged_files}
use Rattle.trio_lease.specs.declared.parts.HoldParts.{HoldParts}
use Rattle.trio_nodes.specs.declared.node.Node.{Node}
use Rattle.trio_nodes.specs.Nodes.{Nodes, node_at, with_node}
use Rattle.trio_nodes.specs.Tree.{IsTree}
use Rattle.trio_desk.specs.Call.{DeskSeen}
use Rattle.trio_desk.specs.Out.{hold_numbers, ino_numbers}
use Rattle.trio_desk.specs.Ready.{lent_files}
use Rattle.trio_desk.specs.Shows.{Naming, made_by, naming_of}
use Rattle.trio_desk.specs.Edits.{InHand, MayShow}
use Rattle.trio_laws.specs.session.Takes.{Becomes, IsInOrder, case_as_stands, pages_in_hand}
use Rattle.trio_laws.specs.session.FileEdits.{core_in_hand}
use Rattle.trio_edit_laws.specs.session.FileEdits.{files_in_hand}
use Rattle.trio_edit_laws.specs.session.Listed.{listed_in_hand}
use Rattle.trio_laws.specs.session.Sees.{IsView}

-- ---- slots

-- A slot that is written: of a directory that is judged, with what it reads before; the page with its bytes before, the slot on it, and
-- the 256 bytes that the slot gets.
pub record SlotWrite : Type 0 where
  pub directory : Met
  pub file : FileRead
  pub page : ℕ
  pub slot : ℕ
  pub old : List ℕ
  pub new : List ℕ

-- what the slot said before, and the body in it
abbrev pub slot_before : DeskSeen → SlotWrite → SlotRead
slot_before desk w = slot_of desk.sizes.inodes (slot_bytes w.slot w.old)

abbrev pub body_before : SlotWrite → List ℕ
body_before w = body_in_slot w.slot w.old

-- what it says then, and the body in it then
abbrev pub slot_after : DeskSeen → SlotWrite → SlotRead
slot_after desk w = slot_of desk.sizes.inodes w.new

abbrev pub body_after : SlotWrite → List ℕ
body_after w = body_in_slot 0 w.new

-- the directory lists this entry then, in the slot
abbrev pub naming_after : SlotWrite → EntryPart → Naming
naming_after w e = record {
  directory = w.directory.ino;
  listed = record { entry = e; page = w.page; slot = w.slot; body = body_after w };
}

-- no entry of the directory has this name
abbrev pub IsFreeName : SlotWrite → List ℕ → Type 0
IsFreeName w name = (l : Listed) → In l w.file.entries → l.entry.name ≡ name → ⊥

-- The slot lies in a block of a directory that is judged, written or made, and alone of its page it has other bytes then.
pub record IsSlotWrite (desk : DeskSeen) (h h' : InHand) (w : SlotWrite) : Type 0 where
  pub judged : In w.directory (judged_files (case_as_stands desk h))
  pub kind : w.directory.kind ≡ Directory
  pub reads : file_in (case_as_stands desk h) w.directory ≡ Ok w.file
  pub block : In w.page w.file.chain.blocks
  pub slot : w.slot < 16
  pub before : page_of (core_in_hand desk h) w.page ≡ Some w.old
  pub whole : length w.old ≡ 4096
  pub fills : length w.new ≡ 256
  pub after : page_of (core_in_hand desk h') w.page ≡ Some (with_part (256 * w.slot) w.new w.old)

-- Slots of different directories are written, one of each. All else in hand is as it was.
pub record AreSlotWrites (desk : DeskSeen) (h h' : InHand) (writes : List SlotWrite) : Type 0 where
  pub each : (w : SlotWrite) → In w writes → IsSlotWrite desk h h' w
  pub once : IsTrue (are_new [] (map (λ w. w.directory.ino) writes))
  pub bytes : (page : ℕ) → (In page (map (λ w. w.page) writes) → ⊥) → page_of (core_in_hand desk h') page ≡ page_of (core_in_hand desk h) page
  pub files : files_in_hand h' ≡ files_in_hand h
  pub pages : pages_in_hand h' ≡ pages_in_hand h
  pub lent : lent_files h'.parcel.writes ≡ lent_files h.parcel.writes
  pub holds : h'.parcel.holds ≡ h.parcel.holds
  pub inodes : h'.parcel.inodes ≡ h.parcel.inodes
  pub back : h'.back ≡ h.back

-- ---- the five edits

-- the file has one of the allotted numbers
abbrev pub IsMade : InHand → ℕ → Type 0
IsMade h n = In n (ino_numbers h.parcel.inodes)

-- the file is held
abbrev pub IsHeldIn : InHand → ℕ → Type 0
IsHeldIn h n = In n (hold_numbers h.parcel.holds)

-- An empty slot gets an entry: of an allotted number that no judged entry names, and of a name that none in the directory has; the body
-- in it is in the grammar, of an empty file of the library's.
pub record IsFill (desk : DeskSeen) (h h' : InHand) (w : SlotWrite) (e : EntryPart) (body : Body) : Type 0 where
  pub writes : AreSlotWrites desk h h' (w ∷ [])
  pub before : slot_before desk w ≡ Empty
  pub after : slot_after desk w ≡ Entry e
  pub name : IsFreeName w e.name
  pub made : IsMade h e.ino
  pub unnamed : naming_of (case_as_stands desk h) e.ino ≡ None
  pub body_is : body_of e.kind desk.sizes.range (body_after w) ≡ Some body
  pub empty : body.size ≡ 0
  pub uid : body.uid ≡ desk.creds.uid
  pub gid : body.gid ≡ desk.creds.gid

-- The entry in a slot gets another name, that none in the directory has.
pub record IsRetitle (desk : DeskSeen) (h h' : InHand) (w : SlotWrite) (e now : EntryPart) : Type 0 where
  pub writes : AreSlotWrites desk h h' (w ∷ [])
  pub before : slot_before desk w ≡ Entry e
  pub after : slot_after desk w ≡ Entry now
  pub number : now.ino ≡ e.ino
  pub kind : now.kind ≡ e.kind
  pub body : body_after w ≡ body_before w
  pub name : IsFreeName w now.name

-- The entry in a slot of a file that was made gets another kind; it was no directory, and is none. The body in the slot is in the grammar for
-- the new kind, and no other entry in the directory has the name.
pub record IsRekind (desk : DeskSeen) (h h' : InHand) (w : SlotWrite) (e now : EntryPart) : Type 0 where
  pub writes : AreSlotWrites desk h h' (w ∷ [])
  pub before : slot_before desk w ≡ Entry e
  pub after : slot_after desk w ≡ Entry now
  pub number : now.ino ≡ e.ino
  pub name : now.name ≡ e.name
  pub plain : is_directory e.kind ≡ false
  pub plain_now : is_directory now.kind ≡ false
  pub made : IsMade h e.ino
  pub body : body_after w ≡ body_before w
  pub body_is : body_of now.kind desk.sizes.range (body_after w) ≡ Some (body_at (body_after w))
  pub alone : (l : Listed) → In l w.file.entries → l.entry.ino ≢ e.ino → l.entry.name ≡ now.name → ⊥

-- The slot of an entry is emptied, of a file that is held or was made.
pub record IsClear (desk : DeskSeen) (h h' : InHand) (w : SlotWrite) (e : EntryPart) : Type 0 where
  pub writes : AreSlotWrites desk h h' (w ∷ [])
  pub before : slot_before desk w ≡ Entry e
  pub after : slot_after desk w ≡ Empty
  pub own : IsHeldIn h e.ino ⊎ IsMade h e.ino

-- the body that an entry takes along: of a file that was made the one in its slot, of a held file the one that its hold lent
abbrev pub TakesBody : DeskSeen → InHand → SlotWrite → SlotWrite → EntryPart → Type 0
TakesBody desk h from to e =
    (IsMade h e.ino × (body_after to ≡ body_before from))
    ⊎ ((k : HoldParts) × (find (λ x. x.ino == e.ino) h.parcel.holds ≡ Some k) × (body_after to ≡ k.body) × (body_of k.kind desk.sizes.range k.body ≡ Some (body_at k.body)))

-- The entry in a slot goes to an empty slot of another directory, where it has a name that none there has.
pub record IsMove (desk : DeskSeen) (h h' : InHand) (from to : SlotWrite) (e now : EntryPart) : Type 0 where
  pub writes : AreSlotWrites desk h h' (from ∷ to ∷ [])
  pub before : slot_before desk from ≡ Entry e
  pub after : slot_after desk from ≡ Empty
  pub before_to : slot_before desk to ≡ Empty
  pub after_to : slot_after desk to ≡ Entry now
  pub number : now.ino ≡ e.ino
  pub kind : now.kind ≡ e.kind
  pub body : TakesBody desk h from to e
  pub name : IsFreeName to now.name

-- ---- what they show

-- the nodes with this node changed, where it is there
abbrev pub with_changed : ℕ → (Node → Node) → Nodes → Nodes
with_changed n change nodes = with_node nodes n (option_map change (node_at nodes n))

-- the node with another name
abbrev pub retitled : List ℕ → Node → Node
retitled name x = record x { name = name }

-- of another kind
abbrev pub rekinded : Kind → Node → Node
rekinded kind x = record x { kind = kind }

-- and in another directory
abbrev pub moved : ℕ → List ℕ → Node → Node
moved directory name x = record x { parent = directory; name = name }

-- the nodes with the file that is made, as its slot says; renamed; turned into one of another kind; without it; and moved
abbrev pub filled : SlotWrite → EntryPart → Nodes → Nodes
filled w e nodes = with_node nodes e.ino (Some (made_by (naming_after w e)))

abbrev pub renamed : EntryPart → Nodes → Nodes
renamed now nodes = with_changed now.ino (retitled now.name) nodes

abbrev pub turned : EntryPart → Nodes → Nodes
turned now nodes = with_changed now.ino (rekinded now.kind) nodes

abbrev pub cleared : EntryPart → Nodes → Nodes
cleared e nodes = with_node nodes e.ino None

abbrev pub rehung : SlotWrite → EntryPart → Nodes → Nodes
rehung to now nodes = with_changed now.ino (moved to.directory.ino now.name) nodes

-- the nodes so changed are one tree still
abbrev pub KeepsTree : DeskSeen → InHand → InHand → (Nodes → Nodes) → Type 0
KeepsTree desk h h' change = (nodes nodes' : Nodes) (rows : List (Option Row)) → MayShow desk h h' nodes nodes' rows → IsTree (change nodes')

-- A file that is made is a new node.
abbrev pub FillShows : Type 0
FillShows =
    (desk : DeskSeen) (h h' : InHand) (w : SlotWrite) (e : EntryPart) (body : Body)
    → IsInOrder desk h → IsFill desk h h' w e body → KeepsTree desk h h' (filled w e) → Becomes desk h h' (filled w e)

-- One that is renamed has the other name.
abbrev pub RetitleShows : Type 0
RetitleShows =
    (desk : DeskSeen) (h h' : InHand) (w : SlotWrite) (e now : EntryPart)
    → IsInOrder desk h → IsRetitle desk h h' w e now → KeepsTree desk h h' (renamed now) → Becomes desk h h' (renamed now)

-- One that gets another kind has it.
abbrev pub RekindShows : Type 0
RekindShows =
    (desk : DeskSeen) (h h' : InHand) (w : SlotWrite) (e now : EntryPart)
    → IsInOrder desk h → IsRekind desk h h' w e now → KeepsTree desk h h' (turned now) → Becomes desk h h' (turned now)

-- One that is removed is gone. That it has no entries is said by the tree.
abbrev pub ClearShows : Type 0
ClearShows =
    (desk : DeskSeen) (h h' : InHand) (w : SlotWrite) (e : EntryPart)
    → IsInOrder desk h → IsClear desk h h' w e → KeepsTree desk h h' (cleared e) → Becomes desk h h' (cleared e)

-- One that is moved has the other parent and the other name.
abbrev pub MoveShows : Type 0
MoveShows =
    (desk : DeskSeen) (h h' : InHand) (from to : SlotWrite) (e now : EntryPart)
    → IsInOrder desk h → IsMove desk h h' from to e now → KeepsTree desk h h' (rehung to now) → Becomes desk h h' (rehung to now)

-- ---- what is judged then

-- the file that this entry lists
abbrev pub IsListedBy : Option Naming → Met → Type 0
IsListedBy None x = ⊥
IsListedBy (Some e) x = x ≡ met_in plain e.directory e.listed

-- the file was made, and this is where it is listed then
abbrev pub IsMadeBy : InHand → ℕ → Option Naming → Met → Type 0
IsMadeBy h n now x = IsMade h n × IsListedBy now x

-- what a file without bytes reads
abbrev pub IsEmptyFile : FileRead → Type 0
IsEmptyFile f = (f.chain.index ≡ []) × (f.chain.blocks ≡ []) × (f.entries ≡ [])

-- What is judged after slots were written and the file of one number is listed by this entry, or by none; all other numbers are named as
-- before. A file is judged where it was, but for that number if it was made: it is where the entry lists it. Each reads as before, but that
-- the edited directories have the entry then and no other of that number. No page is listed that wasn't.
pub record IsAfter (desk : DeskSeen) (h h' : InHand) (writes : List SlotWrite) (n : ℕ) (now : Option Naming) : Type 0 where
  pub named : naming_of (case_as_stands desk h') n ≡ now
  pub named_else : (m : ℕ) → m ≢ n → naming_of (case_as_stands desk h') m ≡ naming_of (case_as_stands desk h) m
  pub judged :
      (x : Met) → In x (judged_files (case_as_stands desk h'))
      ↔ ((In x (judged_files (case_as_stands desk h)) × (IsMade h n → x.ino ≢ n)) ⊎ IsMadeBy h n now x)
  pub others :
      (x : Met) (f : FileRead) → In x (judged_files (case_as_stands desk h)) → file_in (case_as_stands desk h) x ≡ Ok f
      → (In x.ino (map (λ w. w.directory.ino) writes) → ⊥)
      → file_in (case_as_stands desk h') x ≡ Ok f
  pub edited :
      (w : SlotWrite) → In w writes
      → (f : FileRead) × (file_in (case_as_stands desk h') w.directory ≡ Ok f) × (f.body ≡ w.file.body) × (f.chain ≡ w.file.chain)
      × ((l : Listed) → In l f.entries
      ↔ ((In l w.file.entries × (l.entry.ino ≢ n)) ⊎ (now ≡ Some (record { directory = w.directory.ino; listed = l }))))
  pub made :
      (x : Met) → IsMadeBy h n now x
      → ((y : Met) × In y (judged_files (case_as_stands desk h)) × (y.ino ≡ n) × (file_in (case_as_stands desk h') x ≡ file_in (case_as_stands desk h') y))
      ⊎ ((f : FileRead) × (file_in (case_as_stands desk h') x ≡ Ok f) × IsEmptyFile f)
  pub pages : (page : ℕ) → In page (listed_in_hand desk h') → In page (listed_in_hand desk h)

-- So it is after each of the five edits.
abbrev pub AfterFill : Type 0
AfterFill =
    (desk : DeskSeen) (h h' : InHand) (w : SlotWrite) (e : EntryPart) (body : Body) (nodes nodes' : Nodes) (rows : List (Option Row))
    → IsFill desk h h' w e body → IsView desk h h' nodes nodes' rows → IsTree (filled w e nodes')
    → IsAfter desk h h' (w ∷ []) e.ino (Some (naming_after w e))

abbrev pub AfterRetitle : Type 0
AfterRetitle =
    (desk : DeskSeen) (h h' : InHand) (w : SlotWrite) (e now : EntryPart) (nodes nodes' : Nodes) (rows : List (Option Row))
    → IsRetitle desk h h' w e now → IsView desk h h' nodes nodes' rows → IsTree (renamed now nodes')
    → IsAfter desk h h' (w ∷ []) now.ino (Some (naming_after w now))

abbrev pub AfterRekind : Type 0
AfterRekind =
    (desk : DeskSeen) (h h' : InHand) (w : SlotWrite) (e now : EntryPart) (nodes nodes' : Nodes) (rows : List (Option Row))
    → IsRekind desk h h' w e now → IsView desk h h' nodes nodes' rows → IsTree (turned now nodes')
    → IsAfter desk h h' (w ∷ []) now.ino (Some (naming_after w now))

abbrev pub AfterClear : Type 0
AfterClear =
    (desk : DeskSeen) (h h' : InHand) (w : SlotWrite) (e : EntryPart) (nodes nodes' : Nodes) (rows : List (Option Row))
    → IsClear desk h h' w e → IsView desk h h' nodes nodes' rows → IsTree (cleared e nodes')
    → IsAfter desk h h' (w ∷ []) e.ino None

abbrev pub AfterMove : Type 0
AfterMove =
    (desk : DeskSeen) (h h' : InHand) (from to : SlotWrite) (e now : EntryPart) (nodes nodes' : Nodes) (rows : List (Option Row))
    → IsMove desk h h' from to e now → IsView desk h h' nodes nodes' rows → IsTree (rehung to now nodes')
    → IsAfter desk h h' (from ∷ to ∷ []) now.ino (Some (naming_after to now))
