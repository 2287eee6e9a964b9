-- When nodes have all that leases show as they were lent.
use Rattle.std.specs.Prelude.{◌≡◌, ℕ, ◌==◌, Bool, true, false, List, Option, Some, IsTrue}
use Rattle.std.specs.List.{find}
use Rattle.std.specs.Option.{option_map}
use Rattle.trio_rights.specs.Row.{Row, row_in}
use Rattle.trio_rights.specs.ByKind.{is_directory}
use Rattle.trio_lists.specs.Lists.{In}
use Rattle.trio_layout.specs.Body.{guard_in}
use Rattle.trio_layout.specs.Entries.{Listed}
use Rattle.trio_layout.specs.Proposed.{is_place_of}
use Rattle.trio_lease.specs.Shown.{Shown}
use Rattle.trio_lease.specs.declared.parts.HoldParts.{HoldParts}
use Rattle.trio_nodes.specs.declared.node.Node.{Node}
use Rattle.trio_nodes.specs.Nodes.{Nodes, node_at, count_in}
use Rattle.trio_nodes.specs.Standing.{Standing}
use Rattle.trio_desk.specs.Contents.{Sizes, Rights, rights_in, rights_of, entries_shown, entry_of_listed, entry_of_node, bytes_shown}

-- leases, each as it was lent: files that are lent for reading or writing, and holds
pub record Leases : Type 0 where
  pub files : List Shown
  pub holds : List HoldParts

-- the node is there with this kind and these rights
abbrev pub HasRights : Rights → Option Node → Type 0
HasRights rights x = option_map rights_of x ≡ Some rights

-- A directory has just the entries that its lease shows, said number by number; any other file has the bytes.
abbrev pub HasContent : Sizes → Nodes → Shown → Bool → Type 0
HasContent sizes nodes f true =
    (n : ℕ) → entry_of_node f.ino (node_at nodes n) ≡ option_map entry_of_listed (find (λ l. l.entry.ino == n) (entries_shown sizes f))
HasContent sizes nodes f false = option_map (λ x. x.bytes) (node_at nodes f.ino) ≡ Some (bytes_shown f)

-- a lease shows the file's rights, its guard and its content
pub record HasFile (sizes : Sizes) (nodes : Nodes) (f : Shown) : Type 0 where
  pub rights : HasRights (rights_in f.kind f.body) (node_at nodes f.ino)
  pub guard : option_map (λ x. x.guard) (node_at nodes f.ino) ≡ Some (guard_in f.body)
  pub content : HasContent sizes nodes f (is_directory f.kind)

-- a hold shows the file's rights and the number of its children
pub record HasHeld (nodes : Nodes) (h : HoldParts) : Type 0 where
  pub rights : HasRights (rights_in h.kind h.body) (node_at nodes h.ino)
  pub children : count_in nodes h.ino ≡ h.children

-- the nodes have all that the leases show as lent, and the root's rights, which no event changes
pub record Agrees (sizes : Sizes) (root : Rights) (leases : Leases) (nodes : Nodes) : Type 0 where
  pub root_is : HasRights root (node_at nodes 1)
  pub files : (f : Shown) → In f leases.files → HasFile sizes nodes f
  pub holds : (h : HoldParts) → In h leases.holds → HasHeld nodes h

-- ---- rows

-- what a row and a node both say of a number: its directory, its kind and its rights
pub record Said : Type 0 where
  pub parent : ℕ
  pub rights : Rights

-- what a row says
abbrev pub row_says : Row → Said
row_says r = record { parent = r.parent; rights = record { kind = r.kind; mode = r.mode; uid = r.uid; gid = r.gid } }

-- what a node says
abbrev pub node_says : Node → Said
node_says x = record { parent = x.parent; rights = rights_of x }

-- the rows say the same as the nodes, number by number
abbrev pub SaySame : List (Option Row) → Nodes → Type 0
SaySame rows nodes = (n : ℕ) → option_map row_says (row_in rows n) ≡ option_map node_says (node_at nodes n)

-- the rows name the slot in which a lent directory shows an entry
abbrev pub HasPlaces : Sizes → Leases → List (Option Row) → Type 0
HasPlaces sizes leases rows =
    (f : Shown) (l : Listed) → In f leases.files → In l (entries_shown sizes f)
    → IsTrue (is_place_of f.ino l.page l.slot (row_in rows l.entry.ino))

-- ---- grants

-- a grant of the library on the file stands
pub record HasStanding (grants : List Standing) (lib ino : ℕ) : Type 0 where
  pub grant : Standing
  pub among : In grant grants
  pub of : grant.lib ≡ lib
  pub on : grant.ino ≡ ino

-- the grants of these leases stand
pub record AllStand (grants : List Standing) (lib : ℕ) (leases : Leases) : Type 0 where
  pub files : (f : Shown) → In f leases.files → HasStanding grants lib f.ino
  pub holds : (h : HoldParts) → In h leases.holds → HasStanding grants lib h.ino
