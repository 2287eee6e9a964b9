-- The nodes of an image: the tree that its rows tell, with the guards and the bytes of its files; and the notes of its live files.
use Rattle.std.specs.Prelude.{ℕ, ◌==◌, List, [], ◌∷◌, take, length, Option, None, Some, Result, Ok, Err, if◌then◌else◌, unwrap_or}
use Rattle.std.specs.List.{flat_map}
use Rattle.std.specs.Option.{option_map, option_map_or}
use Rattle.trio_lists.specs.Lists.{tabulated}
use Rattle.trio_rights.specs.declared.kind.Kind.{Kind}
use Rattle.trio_rights.specs.ByKind.{is_directory}
use Rattle.trio_rights.specs.Row.{Row, row_in}
use Rattle.trio_layout.specs.declared.body.Body.{Body}
use Rattle.trio_layout.specs.declared.slot.SlotRead.{SlotRead}
use Rattle.trio_layout.specs.declared.slot.SlotRead.TheVariants.{Empty, Entry, Bad}
use Rattle.trio_layout.specs.Body.{body_at, body_of, guard_in}
use Rattle.trio_layout.specs.Chain.{Chain, chain_of}
use Rattle.trio_layout.specs.Core.{Core, Location, page_of}
use Rattle.trio_layout.specs.Entries.{slot_bytes}
use Rattle.trio_layout.specs.Image.{Image, body_at_place}
use Rattle.trio_layout.specs.Slot.{slot_of}
use Rattle.trio_nodes.specs.declared.node.Node.{Node}
use Rattle.trio_nodes.specs.declared.note.Note.{Note}
use Rattle.trio_nodes.specs.Nodes.{Nodes}

-- the bytes of the slot at a place; none where no such page is
abbrev pub bytes_at_place : Core → ℕ → ℕ → List ℕ
bytes_at_place core page slot = option_map_or (slot_bytes slot) (page_of core page) []

-- the name that a slot has, and a hyphen (45) where it has none
abbrev pub name_said : SlotRead → List ℕ
name_said (Entry e) = e.name
name_said Empty = 45 ∷ []
name_said Bad = 45 ∷ []

-- the name of a live file, in the slot that its row names; so the root, which no slot lists, has a hyphen
abbrev pub name_by_row : Core → Row → List ℕ
name_by_row core r = name_said (slot_of core.inodes (bytes_at_place core r.page r.slot))

-- the 64 bytes of its body: the root's own, or those at the place that its row names
abbrev pub body_of_row : Core → ℕ → Row → List ℕ
body_of_row core n r = if n == 1 then core.root else body_at_place core r.page r.slot

-- the bytes of pages, one after another; an absent page has none
abbrev pub joined_pages : Core → List ℕ → List ℕ
joined_pages core pages = flat_map (λ page. unwrap_or (page_of core page) []) pages

-- the bytes of the blocks of a chain that could be read
abbrev pub chain_bytes : Core → Result Chain Location → List ℕ
chain_bytes core (Ok c) = joined_pages core c.blocks
chain_bytes core (Err place) = []

-- the bytes of the blocks of a body's file, up to its size
abbrev pub body_content : Core → Option Body → List ℕ
body_content core None = []
body_content core (Some b) = take b.size (chain_bytes core (chain_of core b))

-- the bytes of a file of this kind with this body; a directory has none
abbrev pub content_of : Core → Kind → List ℕ → List ℕ
content_of core kind body = if is_directory kind then [] else body_content core (body_of kind core.range body)

-- the node of a live number, by its row
abbrev pub node_by_row : Core → ℕ → Row → Node
node_by_row core n r = record {
  parent = r.parent;
  name = name_by_row core r;
  kind = r.kind;
  mode = r.mode;
  uid = r.uid;
  gid = r.gid;
  guard = guard_in (body_of_row core n r);
  bytes = content_of core r.kind (body_of_row core n r);
}

-- the same of each number of the table, from 0 on, which is no file's
abbrev pub nodes_by_rows : Core → List (Option Row) → Nodes
nodes_by_rows core rows = tabulated (λ n. option_map (node_by_row core n) (row_in rows n)) (length rows)

-- the nodes of an image
abbrev pub nodes_of : Image → Nodes
nodes_of image = nodes_by_rows image.core image.rows

-- what is noted of a live number, by its row: its name, and the size and the guard that its body says
abbrev pub note_by_row : Core → ℕ → Row → Note
note_by_row core n r = record {
  name = name_by_row core r;
  size = (body_at (body_of_row core n r)).size;
  guard = guard_in (body_of_row core n r);
}

-- the same of each number of the table, from 0 on
abbrev pub notes_by_rows : Core → List (Option Row) → List (Option Note)
notes_by_rows core rows = tabulated (λ n. option_map (note_by_row core n) (row_in rows n)) (length rows)
