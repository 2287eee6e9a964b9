-- When nodes form one tree.
use Rattle.std.specs.Prelude.{◌≡◌, ◌≢◌, ℕ, Option, None, Some}
use Rattle.trio_rights.specs.declared.kind.Kind.TheVariants.{Directory}
use Rattle.trio_nodes.specs.declared.node.Node.{Node}
use Rattle.trio_nodes.specs.Nodes.{Nodes, node_at}
use Rattle.trio_nodes.specs.Walk.{Path}
use Rattle.trio_nodes.specs.Found.{path_found}

-- there is a node, and it is a directory
abbrev pub IsDirectory : Option Node → Type 0
IsDirectory None = ⊥
IsDirectory (Some x) = x.kind ≡ Directory

-- The nodes are one tree. The root, which has the number 1, is a directory that none lists, and no file has the number 0. Each other
-- node has a live directory as its parent, in which none but it has its name; and each is found from the root by a path, so that
-- none lies below itself.
pub record IsTree (nodes : Nodes) : Type 0 where
  pub root : (x : Node) × (node_at nodes 1 ≡ Some x) × (x.kind ≡ Directory) × (x.parent ≡ 0)
  pub none : node_at nodes 0 ≡ None
  pub parents : (n : ℕ) (x : Node) → node_at nodes n ≡ Some x → n ≢ 1 → IsDirectory (node_at nodes x.parent)
  pub names :
      (n m : ℕ) (x y : Node) → node_at nodes n ≡ Some x → node_at nodes m ≡ Some y
      → x.parent ≡ y.parent → x.name ≡ y.name → n ≡ m
  pub found : (n : ℕ) (x : Node) → node_at nodes n ≡ Some x → (path : Path) × (path_found nodes path ≡ Some n)
