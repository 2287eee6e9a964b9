-- The nodes after an entry: what a history makes of the tree.
use Rattle.std.specs.Prelude.{ℕ, ◌+◌, ◌*◌, ◌==◌, Bool, true, false, List, [], ◌∷◌, ◌++◌, length, take, drop, Option, None, Some, Ok, if◌then◌else◌}
use Rattle.std.specs.Option.{option_map_or}
use Rattle.trio_rights.specs.declared.kind.Kind.{Kind}
use Rattle.trio_rights.specs.ByKind.{is_directory}
use Rattle.trio_rights.specs.declared.rights.Creds.{Creds}
use Rattle.trio_nodes.specs.declared.node.Node.{Node}
use Rattle.trio_nodes.specs.declared.call.Done.{Done}
use Rattle.trio_nodes.specs.declared.call.Reply.{Reply}
use Rattle.trio_nodes.specs.declared.call.Reply.TheVariants.{NoSpace, NoInodes}
use Rattle.trio_nodes.specs.declared.entry.RawFile.{RawFile}
use Rattle.trio_nodes.specs.Told.{ToldBlock}
use Rattle.trio_nodes.specs.declared.entry.Entry.{Entry}
use Rattle.trio_nodes.specs.declared.entry.Entry.TheVariants.{Raw, Batch, Mode}
use Rattle.trio_nodes.specs.Nodes.{Nodes, node_at, with_node}
use Rattle.trio_nodes.specs.Apply.{resized, applied}
use Rattle.trio_nodes.specs.Libraries.{listed_creds}

-- ---- a release

-- a block put in place of the bytes at its position, as far as there are bytes
abbrev pub put_within : ℕ → List ℕ → List ℕ → List ℕ
put_within at block bytes = take (length bytes) (take at bytes ++ block ++ drop (at + length block) bytes)

-- a block put in place, where it is one of this file
abbrev pub with_block : ℕ → ToldBlock → List ℕ → List ℕ
with_block ino b bytes = if b.ino == ino then put_within (4096 * b.at) b.bytes bytes else bytes

-- the listed blocks of a file put in place
abbrev pub with_blocks : ℕ → List ToldBlock → List ℕ → List ℕ
with_blocks ino [] bytes = bytes
with_blocks ino (b ∷ bs) bytes = with_blocks ino bs (with_block ino b bytes)

-- the bytes of a file: as before, cut or grown to the size, with the listed blocks in place; a directory has none
abbrev pub raw_bytes : List ToldBlock → RawFile → Kind → List ℕ → List ℕ
raw_bytes blocks f kind old = if is_directory kind then [] else with_blocks f.ino blocks (resized f.size old)

-- the bytes of a node; where there is none, none
abbrev pub bytes_in : Option Node → List ℕ
bytes_in None = []
bytes_in (Some x) = x.bytes

-- what becomes of a file of a release
abbrev pub raw_node : List ToldBlock → RawFile → Option Node → Option Node
raw_node blocks f old =
    if f.gone then None else
    Some (record {
      parent = f.parent;
      name = f.name;
      kind = f.kind;
      mode = f.mode;
      uid = f.uid;
      gid = f.gid;
      guard = f.guard;
      bytes = raw_bytes blocks f f.kind (bytes_in old);
    })

-- the nodes after a release
abbrev pub raw_nodes : List ToldBlock → List RawFile → Nodes → Nodes
raw_nodes blocks [] nodes = nodes
raw_nodes blocks (f ∷ fs) nodes = raw_nodes blocks fs (with_node nodes f.ino (raw_node blocks f (node_at nodes f.ino)))

-- ---- calls

-- the reply is want of room
abbrev pub lacks_room : Reply → Bool
lacks_room (NoSpace wanted free) = true
lacks_room (NoInodes wanted free) = true
lacks_room _ = false

-- the nodes after a call that was done; want of room changes nothing
abbrev pub call_nodes : Creds → Nodes → Done → Nodes
call_nodes creds nodes d = if lacks_room d.reply then nodes else (applied nodes creds d.call d.made).nodes

-- the nodes after calls in order
abbrev pub batch_nodes : Creds → List Done → Nodes → Nodes
batch_nodes creds [] nodes = nodes
batch_nodes creds (d ∷ ds) nodes = batch_nodes creds ds (call_nodes creds nodes d)

-- ---- a change of mode

-- a node with another mode
abbrev pub moded_node : ℕ → Option Node → Option Node
moded_node mode None = None
moded_node mode (Some x) = Some (record x { mode = record { 0 = mode } })

-- the nodes with another mode of one of them
abbrev pub moded_nodes : ℕ → ℕ → Nodes → Nodes
moded_nodes ino mode nodes = with_node nodes ino (moded_node mode (node_at nodes ino))

-- ---- any entry

-- the nodes after an entry; calls of one that is no library change nothing
abbrev pub nodes_after : List Creds → Nodes → Entry → Nodes
nodes_after libs nodes (Raw lib verdict files bundle) = raw_nodes bundle.blocks files nodes
nodes_after libs nodes (Batch lib calls handed) = option_map_or (λ creds. batch_nodes creds calls nodes) (listed_creds libs lib.0) nodes
nodes_after libs nodes (Mode lib ino mode (Ok done) call) = moded_nodes ino mode nodes
nodes_after libs nodes _ = nodes

-- the nodes after all entries in order
abbrev pub replayed : List Creds → Nodes → List Entry → Nodes
replayed libs nodes [] = nodes
replayed libs nodes (e ∷ es) = replayed libs (nodes_after libs nodes e) es
