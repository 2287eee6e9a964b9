-- A file as it stands in hand, and nodes with other bytes or another guard of a file.
use Rattle.std.specs.Prelude.{ℕ, ◌==◌, Bool, List, [], take, None, if◌then◌else◌, Result}
use Rattle.std.specs.Option.{option_map}
use Rattle.trio_rights.specs.Bundle.{Written}
use Rattle.trio_layout.specs.Core.{Core, Location}
use Rattle.trio_layout.specs.Survey.{FileRead}
use Rattle.trio_layout.specs.Case.{bundle_core}
use Rattle.trio_layout.specs.Within.{file_within}
use Rattle.trio_layout.specs.JudgedFiles.{written_at}
use Rattle.trio_lease.specs.Shown.{Shown}
use Rattle.trio_nodes.specs.declared.node.Node.{Node}
use Rattle.trio_nodes.specs.Nodes.{Nodes, node_at, with_node}
use Rattle.trio_desk.specs.Call.{DeskSeen}
use Rattle.trio_desk.specs.Shows.{pages_bytes}
use Rattle.trio_desk.specs.Edits.{InHand}
use Rattle.trio_laws.specs.session.Takes.{case_as_stands}

-- ---- files as they stand

-- the pages of all that is in hand, at their numbers
abbrev pub core_in_hand : DeskSeen → InHand → Core
core_in_hand desk h = bundle_core (case_as_stands desk h)

-- a file's number, kind and body, without its pages
abbrev pub bare_file : Shown → Written
bare_file f = record { ino = f.ino; kind = f.kind; body = f.body; index = []; blocks = [] }

-- what a file with this number, kind and body reads as it stands
abbrev pub read_in_hand : DeskSeen → InHand → Written → Result FileRead Location
read_in_hand desk h w = file_within (core_in_hand desk h) (written_at w None)

-- the bytes of a file that was read
abbrev pub bytes_listed : Core → FileRead → List ℕ
bytes_listed core f = take f.body.size (pages_bytes core f.chain.blocks)

-- ---- edits

-- a node with these bytes
abbrev pub node_with : List ℕ → Node → Node
node_with bytes x = record x { bytes = bytes }

-- the nodes with these bytes of one file
abbrev pub with_content : ℕ → List ℕ → Nodes → Nodes
with_content ino bytes nodes = with_node nodes ino (option_map (node_with bytes) (node_at nodes ino))

-- a node that is guarded or isn't
abbrev pub node_guarded : Bool → Node → Node
node_guarded on x = record x { guard = on }

-- the nodes with this guard of one file
abbrev pub with_guarded : ℕ → Bool → Nodes → Nodes
with_guarded ino on nodes = with_node nodes ino (option_map (node_guarded on) (node_at nodes ino))

-- the file with this body, where it has this number
abbrev pub with_body : ℕ → List ℕ → Written → Written
with_body ino body w = if w.ino == ino then record w { body = body } else w
