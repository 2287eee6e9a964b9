-- Which entry names a number, as what is in hand stands; which files are judged by that; and where entries stand.
use Rattle.std.specs.Prelude.{◌≡◌, ◌↔◌, ℕ, ◌<◌, List, Option, None, Some, Ok}
use Rattle.trio_rights.specs.Row.{Row}
use Rattle.trio_rights.specs.declared.kind.Kind.TheVariants.{Directory}
use Rattle.trio_lists.specs.Lists.{In}
use Rattle.trio_layout.specs.declared.slot.SlotRead.TheVariants.{Entry}
use Rattle.trio_layout.specs.Core.{page_of}
use Rattle.trio_layout.specs.Entries.{Listed, body_in_slot, slot_bytes}
use Rattle.trio_layout.specs.Slot.{slot_of}
use Rattle.trio_layout.specs.Survey.{FileRead, Met, met_in, plain}
use Rattle.trio_layout.specs.Case.{file_in}
use Rattle.trio_layout.specs.JudgedFiles.{judged_files, written_at}
use Rattle.trio_lease.specs.Shown.{LentFile}
use Rattle.trio_nodes.specs.Nodes.{Nodes}
use Rattle.trio_desk.specs.Call.{DeskSeen}
use Rattle.trio_desk.specs.Out.{ino_numbers}
use Rattle.trio_desk.specs.Shows.{Naming, naming_of}
use Rattle.trio_desk.specs.Edits.{InHand}
use Rattle.trio_laws.specs.session.Takes.{case_as_stands}
use Rattle.trio_laws.specs.session.FileEdits.{bare_file, core_in_hand}
use Rattle.trio_laws.specs.session.Sees.{IsView}

-- An entry of a judged directory names its number, and no other does.
abbrev pub EntryNames : Type 0
EntryNames =
    (desk : DeskSeen) (h h' : InHand) (nodes nodes' : Nodes) (rows : List (Option Row)) (m : Met) (file : FileRead) (l : Listed)
    → IsView desk h h' nodes nodes' rows
    → In m (judged_files (case_as_stands desk h)) → file_in (case_as_stands desk h) m ≡ Ok file → In l file.entries
    → naming_of (case_as_stands desk h) l.entry.ino ≡ Some (record { directory = m.ino; listed = l })

-- What names a number is an entry that a judged directory reads.
abbrev pub NamedIsRead : Type 0
NamedIsRead =
    (desk : DeskSeen) (h : InHand) (n : ℕ) (e : Naming)
    → naming_of (case_as_stands desk h) n ≡ Some e
    → (m : Met) × (file : FileRead) × In m (judged_files (case_as_stands desk h)) × (m.ino ≡ e.directory)
    × (file_in (case_as_stands desk h) m ≡ Ok file) × In e.listed file.entries × (e.listed.entry.ino ≡ n)

-- A file that was made is judged just where an entry names it.
abbrev pub MadeIsJudged : Type 0
MadeIsJudged =
    (desk : DeskSeen) (h h' : InHand) (nodes nodes' : Nodes) (rows : List (Option Row)) (x : Met)
    → IsView desk h h' nodes nodes' rows → In x.ino (ino_numbers h.parcel.inodes)
    → In x (judged_files (case_as_stands desk h))
    ↔ ((e : Naming) × (naming_of (case_as_stands desk h) x.ino ≡ Some e) × (x ≡ met_in plain e.directory e.listed))

-- A written file is judged as it stands.
abbrev pub WrittenIsJudged : Type 0
WrittenIsJudged =
    (desk : DeskSeen) (h : InHand) (f : LentFile)
    → In f h.parcel.writes → In (written_at (bare_file f.stands) None) (judged_files (case_as_stands desk h))

-- the entry is what a slot of these blocks says, with the body in it
pub record IsInSlot (desk : DeskSeen) (h : InHand) (blocks : List ℕ) (l : Listed) : Type 0 where
  pub block : In l.page blocks
  pub slot : l.slot < 16
  pub bytes : List ℕ
  pub page : page_of (core_in_hand desk h) l.page ≡ Some bytes
  pub says : slot_of desk.sizes.inodes (slot_bytes l.slot bytes) ≡ Entry l.entry
  pub body : l.body ≡ body_in_slot l.slot bytes

-- The entries of a directory are just what the slots of its blocks say.
abbrev pub EntriesAreInSlots : Type 0
EntriesAreInSlots =
    (desk : DeskSeen) (h : InHand) (m : Met) (file : FileRead) (l : Listed)
    → m.kind ≡ Directory → file_in (case_as_stands desk h) m ≡ Ok file
    → In l file.entries ↔ IsInSlot desk h file.chain.blocks l
