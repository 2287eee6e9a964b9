-- What a bundle shows of the tree, as it stands: which nodes it makes of nodes.
use Rattle.std.specs.Prelude.{◌≡◌, ℕ, ◌==◌, Bool, List, [], map, take, Option, None, Some, is_some, if◌then◌else◌, Result, Ok, Err, IsTrue}
use Rattle.std.specs.List.{find, flat_map}
use Rattle.std.specs.Option.{option_map, option_and_then, unwrap_or}
use Rattle.trio_rights.specs.declared.kind.Kind.{Kind}
use Rattle.trio_rights.specs.ByKind.{is_directory}
use Rattle.trio_lists.specs.Lists.{is_among}
use Rattle.trio_layout.specs.Body.{body_at, guard_in}
use Rattle.trio_layout.specs.Core.{Core, Location, page_of}
use Rattle.trio_layout.specs.Entries.{Listed}
use Rattle.trio_layout.specs.Survey.{FileRead, numbers}
use Rattle.trio_layout.specs.Case.{Case, bundle_core, file_in}
use Rattle.trio_layout.specs.JudgedFiles.{judged_files}
use Rattle.trio_layout.specs.Rules.{meets_grammar, meets_owning, meets_rights}
use Rattle.trio_nodes.specs.declared.node.Node.{Node}
use Rattle.trio_nodes.specs.Nodes.{Nodes, node_at}

-- ---- entries

-- a directory of the bundle lists this entry
pub record Naming : Type 0 where
  pub directory : ℕ
  pub listed : Listed

-- the entries of one directory, as far as its pages are the bundle's; none where it can't be read
abbrev pub namings_in : ℕ → Result FileRead Location → List Naming
namings_in directory (Ok f) = map (λ l. record { directory = directory; listed = l }) f.entries
namings_in directory (Err place) = []

-- the entries of the bundle's directories: written ones, and those that are made
abbrev pub namings : Case → List Naming
namings c = flat_map (λ m. namings_in m.ino (file_in c m)) (judged_files c)

-- the entry that names a number; by rule I2 there is no other
abbrev pub naming_of : Case → ℕ → Option Naming
naming_of c n = find (λ e. e.listed.entry.ino == n) (namings c)

-- ---- bytes

-- the bytes of pages, one after another; an absent page has none
abbrev pub pages_bytes : Core → List ℕ → List ℕ
pages_bytes core pages = flat_map (λ page. unwrap_or (page_of core page) []) pages

-- the bytes of a file that was read: those of its blocks up to its size; a directory has none
abbrev pub bytes_read : Core → Kind → Result FileRead Location → Option (List ℕ)
bytes_read core kind (Ok f) = if is_directory kind then None else Some (take f.body.size (pages_bytes core f.chain.blocks))
bytes_read core kind (Err place) = None

-- the bytes that the bundle has of a number: those of the judged file, if it is no directory
abbrev pub bytes_now : Case → ℕ → Option (List ℕ)
bytes_now c n = option_and_then (λ m. bytes_read (bundle_core c) m.kind (file_in c m)) (find (λ m. m.ino == n) (judged_files c))

-- the node with other bytes, where there are some
abbrev pub with_bytes : Option (List ℕ) → Node → Node
with_bytes None x = x
with_bytes (Some bytes) x = record x { bytes = bytes }

-- ---- the guard

-- the guard that the bundle has of a number: that of the judged file's body
abbrev pub guard_now : Case → ℕ → Option Bool
guard_now c n = option_map (λ m. guard_in m.body) (find (λ m. m.ino == n) (judged_files c))

-- the node with another guard, where there is one
abbrev pub with_guard : Option Bool → Node → Node
with_guard None x = x
with_guard (Some guarded) x = record x { guard = guarded }

-- the node with what the bundle has of it
abbrev pub with_judged : Option (List ℕ) → Option Bool → Node → Node
with_judged bytes guarded x = with_guard guarded (with_bytes bytes x)

-- ---- nodes

-- a live file, listed here
abbrev pub placed : Naming → Node → Node
placed e x = record x { parent = e.directory; name = e.listed.entry.name }

-- a file that is made, as its slot says
abbrev pub made_by : Naming → Node
made_by e =
    let b = body_at e.listed.body in
    record {
      parent = e.directory;
      name = e.listed.entry.name;
      kind = e.listed.entry.kind;
      mode = b.mode;
      uid = b.uid;
      gid = b.gid;
      guard = b.guard;
      bytes = [];
    }

-- a number that is listed: a live file in its new place, or a file that is made
abbrev pub node_listed : Naming → Option Node → Option Node
node_listed e (Some x) = Some (placed e x)
node_listed e None = Some (made_by e)

-- a number that the bundle's directories list stands there; of the others one that is held is gone, and any other stays
abbrev pub node_left : Case → ℕ → Option Naming → Option Node → Option Node
node_left c n (Some e) old = node_listed e old
node_left c n None old = if is_among n c.bundle.holds then None else old

-- what becomes of a node: its place, and its bytes and guard where the bundle has them
abbrev pub node_now : Case → ℕ → Option Node → Option Node
node_now c n old = option_map (with_judged (bytes_now c n) (guard_now c n)) (node_left c n (naming_of c n) old)

-- The bundle shows these nodes in the place of those. It does so only where rules I1, I2 and I4 hold of it. Each node is as it shows;
-- and its directories have no entries but those that they list, which a function number by number doesn't say: a file whose slot was
-- cleared, without a hold, would stay there.
pub record Shows (c : Case) (nodes nodes' : Nodes) : Type 0 where
  pub grammar : IsTrue (meets_grammar c)
  pub owning : IsTrue (meets_owning c)
  pub rights : IsTrue (meets_rights c)
  pub each : (n : ℕ) → node_at nodes' n ≡ node_now c n (node_at nodes n)
  pub whole : (n : ℕ) (x : Node) → node_at nodes' n ≡ Some x → IsTrue (is_among x.parent (numbers (judged_files c))) → IsTrue (is_some (naming_of c n))
