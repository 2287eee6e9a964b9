-- What a session takes in mid-course: untouched, it leaves the nodes that are shown.
use Rattle.std.specs.Prelude.{◌≡◌, ℕ, List, [], ◌∷◌, ◌++◌, Option, is_some, IsTrue}
use Rattle.trio_rights.specs.Row.{Row}
use Rattle.trio_rights.specs.Bundle.{bundle_pages}
use Rattle.trio_lists.specs.Lists.{In, are_new}
use Rattle.trio_layout.specs.Case.{Case}
use Rattle.trio_lease.specs.Shown.{Shown, LentFile}
use Rattle.trio_lease.specs.declared.fresh.Allotted.{Allotted}
use Rattle.trio_lease.specs.declared.parts.HoldParts.{HoldParts}
use Rattle.trio_nodes.specs.declared.call.Done.{Done}
use Rattle.trio_nodes.specs.Nodes.{Nodes}
use Rattle.trio_nodes.specs.Tree.{IsTree}
use Rattle.trio_desk.specs.Out.{IsWellLent, file_numbers, hold_numbers, numbers_of_file, page_numbers}
use Rattle.trio_desk.specs.Call.{DeskSeen}
use Rattle.trio_desk.specs.Among.{IsAmong}
use Rattle.trio_desk.specs.Shows.{naming_of}
use Rattle.trio_desk.specs.Ready.{ArePossible, ComesToShown, bundle_of, parcel_case}
use Rattle.trio_desk.specs.Edits.{InHand, MayShow, nothing, TakesMore, EditShows}

-- ---- what is in hand

-- what is in hand as it would be judged, with these rows
abbrev pub case_in_hand : DeskSeen → List (Option Row) → InHand → Case
case_in_hand desk rows h = parcel_case desk.sizes desk.creds rows h.parcel

-- and without any: files, entries and pages don't go by rows
abbrev pub case_as_stands : DeskSeen → InHand → Case
case_as_stands desk h = case_in_hand desk [] h

-- the pages of all that is in hand
abbrev pub pages_in_hand : InHand → List ℕ
pages_in_hand h = bundle_pages (bundle_of h.parcel)

-- What is in hand is in order: it stands well among all rows and nodes that are possible, and has each page and each file once.
pub record IsInOrder (desk : DeskSeen) (h : InHand) : Type 0 where
  pub among :
      (nodes : Nodes) (rows : List (Option Row)) → ArePossible desk h.parcel h.back nodes rows
      → IsAmong (case_in_hand desk rows h) nodes
  pub pages : IsTrue (are_new [] (pages_in_hand h))
  pub files : IsTrue (are_new [] (file_numbers h.parcel.writes))

-- What is in hand becomes this: what is possible then was before, the nodes that are shown change so and are one tree still, and all is
-- in order still.
pub record Becomes (desk : DeskSeen) (h h' : InHand) (change : Nodes → Nodes) : Type 0 where
  pub more : TakesMore desk h h'
  pub shows : EditShows desk h h' change
  pub tree : (nodes nodes' : Nodes) (rows : List (Option Row)) → MayShow desk h h' nodes nodes' rows → IsTree (change nodes')
  pub order : IsInOrder desk h'

-- One after another.
abbrev pub BecomesThrough : Type 0
BecomesThrough =
    (desk : DeskSeen) (h between h' : InHand) (first second : Nodes → Nodes)
    → Becomes desk h between first → Becomes desk between h' second → Becomes desk h h' (λ nodes. second (first nodes))

-- more is in hand, and the same nodes are shown
abbrev pub Takes : DeskSeen → InHand → InHand → Type 0
Takes desk h h' = Becomes desk h h' (λ nodes. nodes)

-- A session that begins is in order, whatever it has for reading.
abbrev pub NothingIsInOrder : Type 0
NothingIsInOrder = (desk : DeskSeen) (back : List Shown) → IsInOrder desk (record { parcel = nothing; back = back })

-- ---- leases

-- one more write lease
abbrev pub with_write : InHand → LentFile → InHand
with_write h f = record { parcel = record h.parcel { writes = h.parcel.writes ++ f ∷ [] }; back = h.back }

-- the file is one that a write lease lends untouched: well formed, none that is in hand, of pages that aren't
pub record IsUntouched (desk : DeskSeen) (h : InHand) (f : LentFile) : Type 0 where
  pub as_lent : f.stands ≡ f.lent
  pub well : IsWellLent desk.sizes f.lent
  pub unwritten : In f.lent.ino (file_numbers h.parcel.writes) → ⊥
  pub unheld : In f.lent.ino (hold_numbers h.parcel.holds) → ⊥
  pub apart : (page : ℕ) → In page (numbers_of_file f.lent) → In page (pages_in_hand h) → ⊥

-- A write lease is taken, of a file of any kind.
abbrev pub TakesWrite : Type 0
TakesWrite = (desk : DeskSeen) (h : InHand) (f : LentFile) → IsInOrder desk h → IsUntouched desk h f → Takes desk h (with_write h f)

-- one more hold
abbrev pub with_hold : InHand → HoldParts → InHand
with_hold h k = record { parcel = record h.parcel { holds = h.parcel.holds ++ k ∷ [] }; back = h.back }

-- A hold is taken on a file that is neither held nor written, and that a directory in hand lists as it stands.
abbrev pub TakesHold : Type 0
TakesHold =
    (desk : DeskSeen) (h : InHand) (calls : List Done) (k : HoldParts)
    → IsInOrder desk h → ComesToShown desk h.parcel h.back calls
    → (In k.ino (hold_numbers h.parcel.holds) → ⊥) → (In k.ino (file_numbers h.parcel.writes) → ⊥)
    → IsTrue (is_some (naming_of (case_as_stands desk h) k.ino))
    → Takes desk h (with_hold h k)

-- more read leases
abbrev pub with_reads : InHand → List Shown → InHand
with_reads h more = record { parcel = h.parcel; back = h.back ++ more }

-- Read leases are taken.
abbrev pub TakesReads : Type 0
TakesReads = (desk : DeskSeen) (h : InHand) (more : List Shown) → IsInOrder desk h → Takes desk h (with_reads h more)

-- ---- allotments

-- more pages and numbers
abbrev pub with_allotment : InHand → Allotted → InHand
with_allotment h given =
    record {
      parcel = record h.parcel { pages = h.parcel.pages ++ given.pages.items; inodes = h.parcel.inodes ++ given.inodes.items };
      back = h.back;
    }

-- Pages that aren't in hand are allotted, and numbers. No judged file lists them, and no entry names them.
abbrev pub TakesAllotment : Type 0
TakesAllotment =
    (desk : DeskSeen) (h : InHand) (given : Allotted) → IsInOrder desk h
    → IsTrue (are_new (pages_in_hand h) (page_numbers given.pages.items))
    → Takes desk h (with_allotment h given)
