-- Which pages the judged files list, as what is in hand stands, and how that changes.
use Rattle.std.specs.Prelude.{◌≡◌, ◌≢◌, ◌⊎◌, ℕ, List, [], Option, Ok, IsTrue}
use Rattle.trio_rights.specs.Row.{Row}
use Rattle.trio_lists.specs.Lists.{In, are_new}
use Rattle.trio_layout.specs.Survey.{FileRead, Met}
use Rattle.trio_layout.specs.Entries.{Listed}
use Rattle.trio_layout.specs.Case.{file_in}
use Rattle.trio_layout.specs.JudgedFiles.{judged_files, judged_pages, pages_within}
use Rattle.trio_lease.specs.Shown.{LentFile}
use Rattle.trio_lease.specs.declared.fresh.Allotted.{Allotted}
use Rattle.trio_lease.specs.declared.parts.HoldParts.{HoldParts}
use Rattle.trio_nodes.specs.Nodes.{Nodes, node_at}
use Rattle.trio_desk.specs.Agrees.{HasRights}
use Rattle.trio_desk.specs.Contents.{rights_in}
use Rattle.trio_nodes.specs.declared.call.Done.{Done}
use Rattle.trio_desk.specs.Call.{DeskSeen}
use Rattle.trio_desk.specs.Out.{ino_numbers, numbers_of_file, page_numbers}
use Rattle.trio_desk.specs.Ready.{ComesToShown}
use Rattle.trio_desk.specs.Edits.{InHand}
use Rattle.trio_laws.specs.session.Takes.{IsUntouched, Takes, case_as_stands, pages_in_hand, with_allotment, with_hold, with_write}
use Rattle.trio_edit_laws.specs.session.FileEdits.{IsFileEdit, pages_listed}
use Rattle.trio_laws.specs.session.Sees.{IsView}

-- the pages that the judged files list
abbrev pub listed_in_hand : DeskSeen → InHand → List ℕ
listed_in_hand desk h = judged_pages (case_as_stands desk h)

-- They are in hand, and each is listed once.
abbrev pub ListedAreInHand : Type 0
ListedAreInHand =
    (desk : DeskSeen) (h h' : InHand) (nodes nodes' : Nodes) (rows : List (Option Row)) → IsView desk h h' nodes nodes' rows
    → IsTrue (are_new [] (listed_in_hand desk h)) × ((page : ℕ) → In page (listed_in_hand desk h) → In page (pages_in_hand h))

-- A write lease that is taken adds none but the pages of its file.
abbrev pub ListedAfterWrite : Type 0
ListedAfterWrite =
    (desk : DeskSeen) (h : InHand) (f : LentFile) (nodes nodes' : Nodes) (rows : List (Option Row)) (page : ℕ)
    → IsUntouched desk h f → IsView desk h (with_write h f) nodes nodes' rows
    → In page (listed_in_hand desk (with_write h f)) → In page (listed_in_hand desk h) ⊎ In page (numbers_of_file f.lent)

-- A hold adds none, and allotted pages are listed by none.
abbrev pub ListedAfterHold : Type 0
ListedAfterHold = (desk : DeskSeen) (h : InHand) (k : HoldParts) → listed_in_hand desk (with_hold h k) ≡ listed_in_hand desk h

abbrev pub ListedAfterAllotment : Type 0
ListedAfterAllotment =
    (desk : DeskSeen) (h : InHand) (given : Allotted) (nodes nodes' : Nodes) (rows : List (Option Row))
    → IsTrue (are_new (pages_in_hand h) (page_numbers given.pages.items)) → IsView desk h (with_allotment h given) nodes nodes' rows
    → listed_in_hand desk (with_allotment h given) ≡ listed_in_hand desk h

-- After an edit of a file its pages are those that it reads now; the others' are as before.
abbrev pub ListedAfterEdit : Type 0
ListedAfterEdit =
    (desk : DeskSeen) (h h' : InHand) (f : LentFile) (body : List ℕ) (file : FileRead) (nodes nodes' : Nodes) (rows : List (Option Row)) (page : ℕ)
    → IsFileEdit desk h h' f body file → IsView desk h h' nodes nodes' rows
    → In page (listed_in_hand desk h')
    → In page (pages_listed file)
    ⊎ ((x : Met) × In x (judged_files (case_as_stands desk h)) × (x.ino ≢ f.stands.ino) × In page (pages_within (case_as_stands desk h) x))

-- What the calls come to is what is shown after more was taken, too.
abbrev pub TakingKeeps : Type 0
TakingKeeps =
    (desk : DeskSeen) (h h' : InHand) (calls : List Done)
    → Takes desk h h' → ComesToShown desk h.parcel h.back calls → ComesToShown desk h'.parcel h'.back calls

-- ---- what is judged after more was taken

-- a file of this number was judged, and read so
pub record WasRead (desk : DeskSeen) (h : InHand) (n : ℕ) (file : FileRead) : Type 0 where
  pub met : Met
  pub judged : In met (judged_files (case_as_stands desk h))
  pub number : met.ino ≡ n
  pub reads : file_in (case_as_stands desk h) met ≡ Ok file

-- each entry that was read has in its slot the rights of its node
abbrev pub SlotsHaveRights : Nodes → FileRead → Type 0
SlotsHaveRights nodes file = (l : Listed) → In l file.entries → HasRights (rights_in l.entry.kind l.body) (node_at nodes l.entry.ino)

-- Files of allotted numbers are judged where they were, and no others are. Each judged file was one and read the same, or is one whose
-- entries have the rights of their nodes.
pub record JudgesSame (desk : DeskSeen) (h h' : InHand) (nodes : Nodes) : Type 0 where
  pub stays : (x : Met) → In x.ino (ino_numbers h.parcel.inodes) → In x (judged_files (case_as_stands desk h)) → In x (judged_files (case_as_stands desk h'))
  pub made :
      (x : Met) → In x.ino (ino_numbers h'.parcel.inodes) → In x (judged_files (case_as_stands desk h'))
      → In x (judged_files (case_as_stands desk h)) × In x.ino (ino_numbers h.parcel.inodes)
  pub read :
      (x : Met) (file : FileRead) → In x (judged_files (case_as_stands desk h')) → file_in (case_as_stands desk h') x ≡ Ok file
      → WasRead desk h x.ino file ⊎ SlotsHaveRights nodes file

-- So it is after a write lease, a hold or an allotment.
abbrev pub JudgedAfterWrite : Type 0
JudgedAfterWrite =
    (desk : DeskSeen) (h : InHand) (f : LentFile) (nodes nodes' : Nodes) (rows : List (Option Row))
    → IsUntouched desk h f → IsView desk h (with_write h f) nodes nodes' rows → JudgesSame desk h (with_write h f) nodes

abbrev pub JudgedAfterHold : Type 0
JudgedAfterHold = (desk : DeskSeen) (h : InHand) (k : HoldParts) (nodes : Nodes) → JudgesSame desk h (with_hold h k) nodes

abbrev pub JudgedAfterAllotment : Type 0
JudgedAfterAllotment =
    (desk : DeskSeen) (h : InHand) (given : Allotted) (nodes nodes' : Nodes) (rows : List (Option Row))
    → IsTrue (are_new (pages_in_hand h) (page_numbers given.pages.items)) → IsView desk h (with_allotment h given) nodes nodes' rows
    → JudgesSame desk h (with_allotment h given) nodes
