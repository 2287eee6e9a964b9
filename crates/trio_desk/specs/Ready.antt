-- What may be settled: calls that come, on all nodes that agree with the leases, to what the parcel shows.
use Rattle.std.specs.Prelude.{◌≡◌, ◌≢◌, ◌↔◌, ℕ, List, [], ◌++◌, map, Option, None, Some, Result, Ok, Err, if◌then◌else◌, IsTrue}
use Rattle.std.specs.Option.{option_map}
use Rattle.trio_rights.specs.Row.{Row}
use Rattle.trio_rights.specs.Bundle.{Bundle}
use Rattle.trio_rights.specs.declared.rights.Creds.{Creds}
use Rattle.trio_rights.specs.declared.rights.Mode.{Mode}
use Rattle.trio_lists.specs.Lists.{In, are_new}
use Rattle.trio_layout.specs.Case.{Case}
use Rattle.trio_lease.specs.Shown.{Shown, LentFile}
use Rattle.trio_lease.specs.Views.{fresh_sheet, written_in}
use Rattle.trio_lease.specs.declared.parts.HoldParts.{HoldParts}
use Rattle.trio_nodes.specs.declared.call.Call.{Call}
use Rattle.trio_nodes.specs.declared.call.Call.TheVariants.{Chmod}
use Rattle.trio_nodes.specs.declared.call.Done.{Done}
use Rattle.trio_nodes.specs.declared.call.Reply.{Reply}
use Rattle.trio_nodes.specs.Nodes.{Nodes, node_at, find_named}
use Rattle.trio_nodes.specs.Walk.{is_root, dir_of, name_of, walk_into}
use Rattle.trio_nodes.specs.Tree.{IsTree}
use Rattle.trio_nodes.specs.After.{batch_nodes}
use Rattle.trio_nodes.specs.Legal.{LegalCalls}
use Rattle.trio_desk.specs.Out.{LibOut, Parcel, WasGiven, page_numbers, ino_numbers}
use Rattle.trio_desk.specs.Call.{DeskSeen}
use Rattle.trio_desk.specs.Contents.{Sizes}
use Rattle.trio_desk.specs.Agrees.{Leases, Agrees, SaySame, HasPlaces}
use Rattle.trio_desk.specs.Shows.{Shows}

-- ---- what is handed in

-- written files, as they were lent
abbrev pub lent_files : List LentFile → List Shown
lent_files writes = map (λ f. f.lent) writes

-- The parcel and the read leases given back are all that is out, each thing once. So the parcel is closed.
pub record HandsInAll (out : LibOut) (b : Parcel) (back : List Shown) : Type 0 where
  pub given : WasGiven out b
  pub writes : (f : Shown) → In f out.writes → In f (lent_files b.writes)
  pub reads : (f : Shown) → In f out.reads ↔ In f back
  pub reads_once : IsTrue (are_new [] (map (λ f. f.ino) back))
  pub holds : (h : HoldParts) → In h out.holds → In h b.holds
  pub pages : (n : ℕ) → In n out.pages → In n (page_numbers b.pages)
  pub numbers : (n : ℕ) → In n out.numbers → In n (ino_numbers b.inodes)

-- the leases that are handed in or given back
abbrev pub leases_in : Parcel → List Shown → Leases
leases_in b back = record { files = lent_files b.writes ++ back; holds = b.holds }

-- a parcel, as the steps see a bundle that has it
abbrev pub bundle_of : Parcel → Bundle
bundle_of b = record {
  writes = map (λ f. written_in f.stands) b.writes;
  holds = map (λ h. h.ino) b.holds;
  pages = map fresh_sheet b.pages;
  numbers = map (λ n. n.no) b.inodes;
}

-- what a parcel is judged by, with these rows
abbrev pub parcel_case : Sizes → Creds → List (Option Row) → Parcel → Case
parcel_case sizes creds rows b = record {
  bundle = bundle_of b;
  lent = map (λ h. record { ino = h.ino; body = h.body }) b.holds;
  rows = rows;
  creds = creds;
  range = sizes.range;
  inodes = sizes.inodes;
}

-- ---- ready

-- there is no node of any of these numbers
abbrev pub HasNone : Nodes → List ℕ → Type 0
HasNone nodes numbers = (n : ℕ) → In n numbers → node_at nodes n ≡ None

-- Nodes for which what is handed in may have been lent, and their rows. The nodes are one tree, agree with the leases, and have none
-- of the allotted numbers. The rows say the same as the nodes, and name the slots that lent directories show.
pub record ArePossible (desk : DeskSeen) (b : Parcel) (back : List Shown) (nodes : Nodes) (rows : List (Option Row)) : Type 0 where
  pub tree : IsTree nodes
  pub agrees : Agrees desk.sizes desk.root (leases_in b back) nodes
  pub none : HasNone nodes (ino_numbers b.inodes)
  pub same : SaySame rows nodes
  pub places : HasPlaces desk.sizes (leases_in b back) rows

-- On all nodes that are possible the tree does the calls with their replies, one after another, and ends in nodes that differ just as
-- the parcel shows.
abbrev pub ComesToShown : DeskSeen → Parcel → List Shown → List Done → Type 0
ComesToShown desk b back calls =
    (nodes : Nodes) (rows : List (Option Row)) → ArePossible desk b back nodes rows
    → LegalCalls desk.creds nodes calls
    × Shows (parcel_case desk.sizes desk.creds rows b) nodes (batch_nodes desk.creds calls nodes)

-- What may be settled: the parcel and the read leases are all that the library has out; each file that the calls made got one of the
-- parcel's inode numbers; and the calls come to what the parcel shows.
pub record Ready (desk : DeskSeen) (b : Parcel) (back : List Shown) (calls : List Done) : Type 0 where
  pub all : HandsInAll desk.out b back
  pub made : (d : Done) → In d calls → d.made ≢ 0 → In d.made (ino_numbers b.inodes)
  pub comes : ComesToShown desk b back calls

-- ---- a change of mode

-- a file, and the mode that it is to have
pub record Moded : Type 0 where
  pub ino : ℕ
  pub mode : ℕ

-- the file of this name in the directory to which a walk has come
abbrev pub moded_in : Nodes → List ℕ → Mode → Result ℕ Reply → Option Moded
moded_in nodes name mode (Ok dir) = option_map (λ n. record { ino = n; mode = mode.0 }) (find_named nodes dir name)
moded_in nodes name mode (Err reply) = None

-- where the walk of a chmod comes to, and the mode; None of a walk that is refused, of the root, and of any other call
abbrev pub chmod_walk : Nodes → Creds → Call → Option Moded
chmod_walk nodes creds (Chmod path mode) =
    if is_root path then None else moded_in nodes (name_of path) mode (walk_into nodes creds [] (dir_of path))
chmod_walk nodes creds _ = None

-- these read leases are out, each once
pub record AreLent (out : LibOut) (back : List Shown) : Type 0 where
  pub are_out : (f : Shown) → In f back → In f out.reads
  pub once : IsTrue (are_new [] (map (λ f. f.ino) back))

-- On all nodes that are possible with these read leases alone the call's walk comes to this file, and the call is a change of its mode
-- to this one.
abbrev pub IsChmod : DeskSeen → List Shown → ℕ → ℕ → Call → Type 0
IsChmod desk back ino mode call =
    (nodes : Nodes) (rows : List (Option Row))
    → ArePossible desk (record { writes = []; holds = []; pages = []; inodes = [] }) back nodes rows
    → chmod_walk nodes desk.creds call ≡ Some (record { ino = ino; mode = mode })

-- a call that is handed in with a change of mode is that change, by the walk that the read leases handed back show
abbrev pub TellsChmod : DeskSeen → List Shown → ℕ → ℕ → Option Call → Type 0
TellsChmod desk back ino mode None = Unit {0}
TellsChmod desk back ino mode (Some call) = IsChmod desk back ino mode call
