-- What a session sees of the nodes that it shows: what its leases and its own pages say is true of them.
use Rattle.std.specs.Prelude.{◌≡◌, ℕ, false, not, List, length, Option, None, Some, Ok}
use Rattle.std.specs.List.{find}
use Rattle.std.specs.Option.{option_map}
use Rattle.std.specs.Str.{bytes_eq}
use Rattle.trio_rights.specs.Row.{Row, row_in}
use Rattle.trio_rights.specs.May.{ancestors, row_permits}
use Rattle.trio_rights.specs.declared.rights.Creds.{Creds}
use Rattle.trio_rights.specs.declared.rights.Need.TheVariants.{Read as ToRead}
use Rattle.trio_rights.specs.ByKind.{is_directory}
use Rattle.trio_lists.specs.Lists.{In}
use Rattle.trio_layout.specs.Body.{body_at}
use Rattle.trio_layout.specs.Entries.{Listed}
use Rattle.trio_layout.specs.Survey.{FileRead, Met}
use Rattle.trio_layout.specs.Case.{file_in}
use Rattle.trio_layout.specs.JudgedFiles.{judged_files}
use Rattle.trio_lease.specs.Shown.{Shown, LentFile}
use Rattle.trio_nodes.specs.declared.node.Node.{Node}
use Rattle.trio_nodes.specs.Nodes.{Nodes, node_at, count_in, find_named}
use Rattle.trio_nodes.specs.Legal.{rights_rows}
use Rattle.trio_desk.specs.Contents.{bytes_shown, entries_shown, rights_in, rights_of}
use Rattle.trio_desk.specs.Agrees.{HasFile, HasRights}
use Rattle.trio_desk.specs.Call.{DeskSeen}
use Rattle.trio_desk.specs.Out.{IsWellLent, file_numbers, hold_numbers, ino_numbers, lent_numbers}
use Rattle.trio_desk.specs.Ready.{leases_in}
use Rattle.trio_desk.specs.Edits.{InHand, MayShow, TakesMore}
use Rattle.trio_laws.specs.session.Takes.{IsInOrder, case_as_stands}
use Rattle.trio_laws.specs.session.FileEdits.{bare_file, bytes_listed, core_in_hand, read_in_hand}

-- What was in hand is in order, and more may be in hand by now; these nodes and rows are possible, and those nodes are shown.
pub record IsView (desk : DeskSeen) (h h' : InHand) (nodes nodes' : Nodes) (rows : List (Option Row)) : Type 0 where
  pub order : IsInOrder desk h
  pub more : TakesMore desk h h'
  pub shows : MayShow desk h h' nodes nodes' rows

-- The root has the rights that the desk tells.
abbrev pub SeesRoot : Type 0
SeesRoot =
    (desk : DeskSeen) (h h' : InHand) (nodes nodes' : Nodes) (rows : List (Option Row))
    → IsView desk h h' nodes nodes' rows → HasRights desk.root (node_at nodes' 1)

-- ---- leases as they were lent

-- the file is neither written nor held
abbrev pub IsLeftAlone : InHand → ℕ → Type 0
IsLeftAlone h n = (In n (file_numbers h.parcel.writes) → ⊥) × (In n (hold_numbers h.parcel.holds) → ⊥)

-- the lease is in hand, for reading or for writing
abbrev pub IsLeaseIn : InHand → Shown → Type 0
IsLeaseIn h f = In f (leases_in h.parcel h.back).files

-- What a lease shows is true of the nodes that are shown too, where its file was neither written nor held.
abbrev pub SeesLease : Type 0
SeesLease =
    (desk : DeskSeen) (h h' : InHand) (nodes nodes' : Nodes) (rows : List (Option Row)) (f : Shown)
    → IsView desk h h' nodes nodes' rows → IsLeaseIn h' f → IsLeftAlone h f.ino
    → HasFile desk.sizes nodes' f

-- An entry that a lease shows, wherever it is listed now, has the kind and the rights that its slot showed.
abbrev pub SeesEntryRights : Type 0
SeesEntryRights =
    (desk : DeskSeen) (h h' : InHand) (nodes nodes' : Nodes) (rows : List (Option Row)) (f : Shown) (l : Listed) (x : Node)
    → IsView desk h h' nodes nodes' rows → IsLeaseIn h' f → IsWellLent desk.sizes f
    → In l (entries_shown desk.sizes f) → node_at nodes' l.entry.ino ≡ Some x
    → rights_of x ≡ rights_in l.entry.kind l.body

-- ---- directories

-- A directory lists just these entries: each is a node in it, with the name and the kind; each node in it is one of them; a name that
-- is looked up is the one of the entry that has it; and there are as many.
pub record Lists (nodes : Nodes) (directory : ℕ) (entries : List Listed) : Type 0 where
  pub each :
      (l : Listed) → In l entries
      → (x : Node) × (node_at nodes l.entry.ino ≡ Some x) × (x.parent ≡ directory) × (x.name ≡ l.entry.name) × (x.kind ≡ l.entry.kind)
  pub only : (n : ℕ) (x : Node) → node_at nodes n ≡ Some x → x.parent ≡ directory → (l : Listed) × In l entries × (l.entry.ino ≡ n)
  pub named : (name : List ℕ) → find_named nodes directory name ≡ option_map (λ l. l.entry.ino) (find (λ l. bytes_eq l.entry.name name) entries)
  pub count : count_in nodes directory ≡ length entries

-- So does a directory that a lease shows and that was neither written nor held.
abbrev pub SeesLent : Type 0
SeesLent =
    (desk : DeskSeen) (h h' : InHand) (nodes nodes' : Nodes) (rows : List (Option Row)) (f : Shown)
    → IsView desk h h' nodes nodes' rows → IsLeaseIn h' f → IsLeftAlone h f.ino → IsWellLent desk.sizes f
    → Lists nodes' f.ino (entries_shown desk.sizes f)

-- And a judged one, written or made, with the entries that it reads as it stands.
abbrev pub SeesJudged : Type 0
SeesJudged =
    (desk : DeskSeen) (h h' : InHand) (nodes nodes' : Nodes) (rows : List (Option Row)) (m : Met) (file : FileRead)
    → IsView desk h h' nodes nodes' rows
    → In m (judged_files (case_as_stands desk h)) → file_in (case_as_stands desk h) m ≡ Ok file
    → Lists nodes' m.ino file.entries

-- A written file that is untouched reads as it was lent; so a directory lists the entries that its lease shows.
abbrev pub SeesUntouched : Type 0
SeesUntouched =
    (desk : DeskSeen) (h h' : InHand) (nodes nodes' : Nodes) (rows : List (Option Row)) (f : LentFile)
    → IsView desk h h' nodes nodes' rows → In f h.parcel.writes → f.stands ≡ f.lent → IsWellLent desk.sizes f.lent
    → Lists nodes' f.lent.ino (entries_shown desk.sizes f.lent)

-- So do its body, the chain of its pages, its entries and its bytes read as they were lent.
abbrev pub UntouchedReads : Type 0
UntouchedReads =
    (desk : DeskSeen) (h : InHand) (f : LentFile)
    → IsInOrder desk h → In f h.parcel.writes → f.stands ≡ f.lent → IsWellLent desk.sizes f.lent
    → (file : FileRead) × (read_in_hand desk h (bare_file f.stands) ≡ Ok file)
    × (file.body ≡ body_at f.lent.body)
    × (file.chain ≡ record { index = lent_numbers f.lent.index; blocks = lent_numbers f.lent.blocks })
    × (file.entries ≡ entries_shown desk.sizes f.lent)
    × (is_directory f.lent.kind ≡ false → bytes_listed (core_in_hand desk h) file ≡ bytes_shown f.lent)

-- An entry of such a directory that names a file that was made has, as a node, the rights of its slot.
abbrev pub SeesMade : Type 0
SeesMade =
    (desk : DeskSeen) (h h' : InHand) (nodes nodes' : Nodes) (rows : List (Option Row)) (m : Met) (file : FileRead) (l : Listed)
    → IsView desk h h' nodes nodes' rows
    → In m (judged_files (case_as_stands desk h)) → file_in (case_as_stands desk h) m ≡ Ok file
    → In l file.entries → In l.entry.ino (ino_numbers h.parcel.inodes)
    → HasRights (rights_in l.entry.kind l.body) (node_at nodes' l.entry.ino)

-- each directory above a file gives reading
abbrev pub AboveIsOpen : Nodes → Creds → ℕ → Type 0
AboveIsOpen nodes creds n =
    (steps : ℕ)
    → find (λ k. not (row_permits creds ToRead (row_in (rights_rows nodes) k))) (ancestors (rights_rows nodes) steps (row_in (rights_rows nodes) n)) ≡ None

-- ---- written files

-- A written file has the rights of its body as it stands, and what is no directory the bytes that it reads as it stands.
abbrev pub SeesWritten : Type 0
SeesWritten =
    (desk : DeskSeen) (h h' : InHand) (nodes nodes' : Nodes) (rows : List (Option Row)) (f : LentFile) (file : FileRead)
    → IsView desk h h' nodes nodes' rows
    → In f h.parcel.writes → f.stands.ino ≡ f.lent.ino → f.stands.kind ≡ f.lent.kind
    → read_in_hand desk h (bare_file f.stands) ≡ Ok file
    → HasRights (rights_in f.stands.kind f.stands.body) (node_at nodes' f.stands.ino)
    × (is_directory f.stands.kind ≡ false → option_map (λ x. x.bytes) (node_at nodes' f.stands.ino) ≡ Some (bytes_listed (core_in_hand desk h) file))
