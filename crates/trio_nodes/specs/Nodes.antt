-- The tree, as nodes by inode number.
use Rattle.std.specs.Prelude.{◌≡◌, ℕ, zero, suc, ◌==◌, Bool, false, ◌&&◌, List, [], ◌∷◌, Option, None, Some, if◌then◌else◌, slice_index_or, count_by}
use Rattle.std.specs.List.{filter_map, position_from}
use Rattle.std.specs.Str.{bytes_eq}
use Rattle.trio_lists.specs.Sorting.{sorted_by_name}
use Rattle.trio_rights.specs.declared.kind.Kind.{Kind}
use Rattle.trio_nodes.specs.declared.node.Node.{Node}

-- at each place the node of that number, or that there is none; past the end there is none
abbrev pub Nodes : Type 0
Nodes = List (Option Node)

-- the node of a number, where there is one
abbrev pub node_at : Nodes → ℕ → Option Node
node_at nodes n = slice_index_or nodes n None

-- the nodes with this at one number, a node or none, and all else as it was
abbrev pub with_node : Nodes → ℕ → Option Node → Nodes
with_node [] zero node = node ∷ []
with_node [] (suc n) node = None ∷ with_node [] n node
with_node (x ∷ xs) zero node = node ∷ xs
with_node (x ∷ xs) (suc n) node = x ∷ with_node xs n node

-- two lists that say the same of every number
abbrev pub SameNodes : Nodes → Nodes → Type 0
SameNodes a b = (n : ℕ) → node_at a n ≡ node_at b n

-- ---- directories

-- the directory lists this node
abbrev pub is_in : ℕ → Option Node → Bool
is_in dir None = false
is_in dir (Some x) = x.parent == dir

-- the directory lists this node by this name
abbrev pub is_named : ℕ → List ℕ → Option Node → Bool
is_named dir name None = false
is_named dir name (Some x) = x.parent == dir && bytes_eq x.name name

-- the number of the file that a directory lists by a name
abbrev pub find_named : Nodes → ℕ → List ℕ → Option ℕ
find_named nodes dir name = position_from (is_named dir name) 0 nodes

-- how many entries a directory has
abbrev pub count_in : Nodes → ℕ → ℕ
count_in nodes dir = count_by (is_in dir) nodes

-- the entry of a node, where the directory lists it
abbrev pub entry_in : ℕ → Option Node → Option (List ℕ × Kind)
entry_in dir None = None
entry_in dir (Some x) = if x.parent == dir then Some (x.name, x.kind) else None

-- the name of an entry
abbrev pub entry_name : List ℕ × Kind → List ℕ
entry_name entry = entry.0

-- the entries of a directory, in the byte order of names
abbrev pub names_in : Nodes → ℕ → List (List ℕ × Kind)
names_in nodes dir = sorted_by_name entry_name (filter_map (entry_in dir) nodes)
