-- The nodes for which a state stands.
use Rattle.std.specs.Prelude.{◌≡◌, ℕ, ◌+◌, ◌==◌, Bool, ◌&&◌, List, [], ◌∷◌, map, take, Option, None, Some, if◌then◌else◌}
use Rattle.std.specs.List.{find, flat_map}
use Rattle.std.specs.Option.{option_map_or}
use Rattle.trio_rights.specs.declared.kind.Kind.{Kind}
use Rattle.trio_rights.specs.ByKind.{is_directory}
use Rattle.trio_rights.specs.Row.{Row}
use Rattle.trio_lists.specs.Lists.{tabulated}
use Rattle.trio_layout.specs.Body.{body_at, guard_in}
use Rattle.trio_layout.specs.Slot.{entry_at}
use Rattle.trio_layout.specs.Core.{page_of}
use Rattle.trio_layout.specs.Entries.{slot_bytes}
use Rattle.trio_rights.specs.Sheets.{Sheet}
use Rattle.trio_layout.specs.Image.{Image, row_at, settled_body}
use Rattle.trio_state.specs.State.{OpenGrant, State, settled}
use Rattle.trio_nodes.specs.GrantKinds.{is_write}
use Rattle.trio_layout.specs.Pages.{settled_chain, block_sheets}
use Rattle.trio_nodes.specs.declared.node.Node.{Node}
use Rattle.trio_nodes.specs.Nodes.{Nodes}
use Rattle.trio_nodes.specs.Standing.{Standing}
use Rattle.trio_nodes.specs.Legal.{Past}

-- the name in a slot of a page
abbrev pub name_in : ℕ → List ℕ → List ℕ
name_in slot bytes = (entry_at (slot_bytes slot bytes)).name

-- the name of a file: in the slot that its row names, and of the root a hyphen
abbrev pub name_of : Image → ℕ → Row → List ℕ
name_of image n r = if n == 1 then 45 ∷ [] else option_map_or (name_in r.slot) (page_of image.core r.page) []

-- the size that the body of a file says
abbrev pub size_of : Image → ℕ → ℕ
size_of image n = (body_at (settled_body image n)).size

-- whether it says that the file is guarded
abbrev pub guard_of : Image → ℕ → Bool
guard_of image n = guard_in (settled_body image n)

-- the open write grant on a file
abbrev pub writer_of : State → ℕ → Option OpenGrant
writer_of s n = find (λ g. g.ino == n && is_write g.kind) s.open_grants

-- the blocks of a file: as its open write grant lent them, else as they stand in the settled image
abbrev pub blocks_of : Image → ℕ → Row → Option OpenGrant → List Sheet
blocks_of image n r None = block_sheets image.core (settled_chain image r.kind n)
blocks_of image n r (Some g) = g.blocks

-- the bytes of pages one after another, up to a size
abbrev pub bytes_of_sheets : ℕ → List Sheet → List ℕ
bytes_of_sheets size sheets = take size (flat_map (λ x. x.bytes) sheets)

-- the bytes of a file's blocks, up to its size
abbrev pub data_of : Image → ℕ → Row → Option OpenGrant → List ℕ
data_of image n r writer = bytes_of_sheets (size_of image n) (blocks_of image n r writer)

-- those are the bytes of a file; a directory has none
abbrev pub bytes_of : Image → ℕ → Row → Option OpenGrant → Kind → List ℕ
bytes_of image n r writer kind = if is_directory kind then [] else data_of image n r writer

-- the node of a live number, by its row and the open write grant on it
abbrev pub node_of : Image → ℕ → Option OpenGrant → Row → Node
node_of image n writer r = record {
  parent = r.parent;
  name = name_of image n r;
  kind = r.kind;
  mode = r.mode;
  uid = r.uid;
  gid = r.gid;
  guard = guard_of image n;
  bytes = bytes_of image n r writer r.kind;
}

-- the same of any number, by its row if it has one
abbrev pub node_by : Image → ℕ → Option OpenGrant → Option Row → Option Node
node_by image n writer None = None
node_by image n writer (Some r) = Some (node_of image n writer r)

-- the node of a number, by its row
abbrev pub node_in : State → ℕ → Option Node
node_in s n = node_by (settled s) n (writer_of s n) (row_at s.home n)

-- the nodes of all numbers, from 0, which has none, up to the last
abbrev pub nodes_of : State → Nodes
nodes_of s = tabulated (node_in s) (s.home.core.inodes + 1)

-- The state stands for these nodes: tree, names, rights and guards are the settled image's, and so are the bytes, but that those of a file
-- that is out for writing are as they were lent.
abbrev pub Stands : State → Nodes → Type 0
Stands s nodes = nodes ≡ nodes_of s

-- an open grant, as it stands in the history
abbrev pub standing_of : OpenGrant → Standing
standing_of g = record { lib = g.lib; ino = g.ino; kind = g.kind; entry = g.entry }

-- what the history of a state has to come to
abbrev pub past_of : State → Past
past_of s = record { nodes = nodes_of s; grants = map standing_of s.open_grants; entries = s.entries }
