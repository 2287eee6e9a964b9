-- A judged file is edited, of any kind, whether its body stands with its lease or, as it was made, in a slot of a directory's page.
use Rattle.std.specs.Prelude.{◌≡◌, ◌≢◌, ◌⊎◌, Bool, ℕ, ◌==◌, List, [], map, length, Option, Some, Ok, if◌then◌else◌, IsTrue}
use Rattle.trio_rights.specs.Row.{Row}
use Rattle.trio_rights.specs.declared.kind.Kind.{Kind}
use Rattle.trio_rights.specs.ByKind.{is_directory}
use Rattle.trio_lists.specs.Lists.{In, is_among, are_new}
use Rattle.trio_layout.specs.Accept.{with_body_in}
use Rattle.trio_layout.specs.Core.{page_of}
use Rattle.trio_layout.specs.Entries.{Listed}
use Rattle.trio_layout.specs.Survey.{FileRead, Met}
use Rattle.trio_layout.specs.Case.{file_in}
use Rattle.trio_layout.specs.JudgedFiles.{judged_files, pages_within}
use Rattle.trio_lease.specs.Shown.{LentFile}
use Rattle.trio_nodes.specs.Nodes.{Nodes}
use Rattle.trio_desk.specs.Call.{DeskSeen}
use Rattle.trio_desk.specs.Out.{ino_numbers}
use Rattle.trio_desk.specs.Ready.{lent_files}
use Rattle.trio_desk.specs.Edits.{InHand}
use Rattle.trio_laws.specs.session.Takes.{IsInOrder, Becomes, case_as_stands, pages_in_hand}
use Rattle.trio_laws.specs.session.FileEdits.{bytes_listed, core_in_hand, with_body}
use Rattle.trio_edit_laws.specs.session.FileEdits.{SameRights, files_in_hand, pages_listed, with_data}
use Rattle.trio_edit_laws.specs.session.Listed.{listed_in_hand}
use Rattle.trio_laws.specs.session.Sees.{IsView}

-- ---- bodies

-- the judged file with this body, where it has this number
abbrev pub met_with : ℕ → List ℕ → Met → Met
met_with ino body m = if m.ino == ino then record m { body = body } else m

-- the entry with this body in its slot, where it names this number
abbrev pub listed_with : ℕ → List ℕ → Listed → Listed
listed_with ino body l = if l.entry.ino == ino then record l { body = body } else l

-- The body of a written file stands with its lease, of the number and kind that were lent: it is exchanged there, and no other file's.
pub record HasBodyByLease (h h' : InHand) (m : Met) (body : List ℕ) : Type 0 where
  pub lease : LentFile
  pub written : In lease h.parcel.writes
  pub number : lease.stands.ino ≡ m.ino
  pub number_lent : lease.stands.ino ≡ lease.lent.ino
  pub kind_lent : lease.stands.kind ≡ lease.lent.kind
  pub files : files_in_hand h' ≡ map (with_body m.ino body) (files_in_hand h)

-- The body of a file that was made stands in the slot of the entry that names it: it is exchanged there, in a whole page, and no lease's.
pub record HasBodyInSlot (desk : DeskSeen) (h h' : InHand) (m : Met) (body : List ℕ) : Type 0 where
  pub made : In m.ino (ino_numbers h.parcel.inodes)
  pub files : files_in_hand h' ≡ files_in_hand h
  pub sized : length body ≡ 64
  pub page : List ℕ
  pub whole : length page ≡ 4096
  pub before : page_of (core_in_hand desk h) m.page ≡ Some page
  pub after : page_of (core_in_hand desk h') m.page ≡ Some (with_body_in m.slot body page)

-- the file's body is now this
abbrev pub HasBodyNow : DeskSeen → InHand → InHand → Met → List ℕ → Type 0
HasBodyNow desk h h' m body = HasBodyByLease h h' m body ⊎ HasBodyInSlot desk h h' m body

-- ---- edits

-- One judged file gets another body, and pages that it lists before or after get other bytes. It reads then with the rights and the
-- entries that it had, and with pages that are in hand, each once, and that no other judged file lists. All else in hand is as it was.
pub record IsJudgedEdit (desk : DeskSeen) (h h' : InHand) (m : Met) (body : List ℕ) (file file' : FileRead) : Type 0 where
  pub judged : In m (judged_files (case_as_stands desk h))
  pub reads : file_in (case_as_stands desk h) m ≡ Ok file
  pub body_now : HasBodyNow desk h h' m body
  pub pages : pages_in_hand h' ≡ pages_in_hand h
  pub lent : lent_files h'.parcel.writes ≡ lent_files h.parcel.writes
  pub holds : h'.parcel.holds ≡ h.parcel.holds
  pub inodes : h'.parcel.inodes ≡ h.parcel.inodes
  pub back : h'.back ≡ h.back
  pub reads_now : file_in (case_as_stands desk h') (record m { body = body }) ≡ Ok file'
  pub rights : SameRights file'.body file.body
  pub entries : file'.entries ≡ file.entries
  pub own : (page : ℕ) → In page (pages_listed file') → In page (pages_in_hand h)
  pub once : IsTrue (are_new [] (pages_listed file'))
  pub apart :
      (x : Met) (page : ℕ) → In x (judged_files (case_as_stands desk h)) → x.ino ≢ m.ino
      → In page (pages_within (case_as_stands desk h) x) → In page (pages_listed file') → ⊥
  pub bytes :
      (page : ℕ) → (In page (pages_listed file) → ⊥) → (In page (pages_listed file') → ⊥) → (In m.ino (ino_numbers h.parcel.inodes) → page ≢ m.page)
      → page_of (core_in_hand desk h') page ≡ page_of (core_in_hand desk h) page

-- the nodes with these bytes and this guard of one file that is no directory; a directory has its entries, and neither
abbrev pub content_of : Kind → ℕ → List ℕ → Bool → Nodes → Nodes
content_of kind ino bytes guarded nodes = if is_directory kind then nodes else with_data ino bytes guarded nodes

-- Then the nodes that are shown have the bytes that the file now reads, and the guard; where it is a directory they are the same.
abbrev pub JudgedEditShows : Type 0
JudgedEditShows =
    (desk : DeskSeen) (h h' : InHand) (m : Met) (body : List ℕ) (file file' : FileRead)
    → IsInOrder desk h → IsJudgedEdit desk h h' m body file file'
    → Becomes desk h h' (content_of m.kind m.ino (bytes_listed (core_in_hand desk h') file') file'.body.guard)

-- ---- what is read after an edit

-- The judged files are those of before, with this one's body exchanged.
abbrev pub JudgedAfterEdit : Type 0
JudgedAfterEdit =
    (desk : DeskSeen) (h h' : InHand) (m : Met) (body : List ℕ) (file file' : FileRead) (nodes nodes' : Nodes) (rows : List (Option Row))
    → IsJudgedEdit desk h h' m body file file' → IsView desk h h' nodes nodes' rows
    → judged_files (case_as_stands desk h') ≡ map (met_with m.ino body) (judged_files (case_as_stands desk h))

-- what another judged file reads after the edit: if the edited one was made, the entry that names it has the new body in its slot
abbrev pub file_beside : InHand → ℕ → List ℕ → FileRead → FileRead
file_beside h ino body f =
    if is_among ino (ino_numbers h.parcel.inodes) then record f { entries = map (listed_with ino body) f.entries } else f

-- So reads each other judged file, and one that isn't the directory of a made file that is edited just as it did.
abbrev pub ReadsAfterEdit : Type 0
ReadsAfterEdit =
    (desk : DeskSeen) (h h' : InHand) (m : Met) (body : List ℕ) (file file' : FileRead) (nodes nodes' : Nodes) (rows : List (Option Row)) (x : Met) (f : FileRead)
    → IsJudgedEdit desk h h' m body file file' → IsView desk h h' nodes nodes' rows
    → In x (judged_files (case_as_stands desk h)) → x.ino ≢ m.ino → file_in (case_as_stands desk h) x ≡ Ok f
    → (file_in (case_as_stands desk h') x ≡ Ok (file_beside h m.ino body f))
    × ((In m.ino (ino_numbers h.parcel.inodes) → x.ino ≢ m.parent) → file_in (case_as_stands desk h') x ≡ Ok f)

-- The pages that the judged files list are those that the edited one reads now, and those of the others.
abbrev pub ListedAfterJudgedEdit : Type 0
ListedAfterJudgedEdit =
    (desk : DeskSeen) (h h' : InHand) (m : Met) (body : List ℕ) (file file' : FileRead) (nodes nodes' : Nodes) (rows : List (Option Row)) (page : ℕ)
    → IsJudgedEdit desk h h' m body file file' → IsView desk h h' nodes nodes' rows
    → In page (listed_in_hand desk h')
    → In page (pages_listed file')
    ⊎ ((x : Met) × In x (judged_files (case_as_stands desk h)) × (x.ino ≢ m.ino) × In page (pages_within (case_as_stands desk h) x))
