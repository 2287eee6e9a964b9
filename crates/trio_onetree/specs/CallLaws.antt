-- Laws of calls: what one may change, and that a tree stays a tree.
use Rattle.std.specs.Prelude.{◌≡◌, ℕ, Bool, true, false, List, [], Option, None, Some, IsTrue, IsFalse}
use Rattle.trio_rights.specs.declared.kind.Kind.{Kind}
use Rattle.trio_rights.specs.declared.kind.Kind.TheVariants.{Regular, Directory, Link}
use Rattle.trio_rights.specs.declared.rights.Creds.{Creds}
use Rattle.trio_rights.specs.declared.rights.Mode.{Mode}
use Rattle.trio_nodes.specs.declared.node.Node.{Node}
use Rattle.trio_nodes.specs.declared.call.Call.{Call}
use Rattle.trio_nodes.specs.declared.call.Call.TheVariants.{Mkdir, Create, Write, Read, Truncate, Unlink, Rmdir, Rename, List as ListNames, Stat, Chmod, Symlink, Readlink, Guard}
use Rattle.trio_nodes.specs.declared.call.Done.{Done}
use Rattle.trio_nodes.specs.declared.call.Reply.{Reply}
use Rattle.trio_nodes.specs.Nodes.{Nodes, node_at, with_node}
use Rattle.trio_nodes.specs.Walk.{Path, dir_of, name_of}
use Rattle.trio_nodes.specs.Found.{path_found}
use Rattle.trio_nodes.specs.Apply.{Apply, is_done, link_mode, new_node, put_at, resized}
use Rattle.trio_nodes.specs.After.{batch_nodes, moded_node}
use Rattle.trio_nodes.specs.Legal.{LegalCalls, MadeFits}
use Rattle.trio_nodes.specs.Tree.{IsTree}

-- ---- what a call changes

-- the call looks, and changes nothing
abbrev pub only_looks : Call → Bool
only_looks (Read path at len) = true
only_looks (ListNames path from) = true
only_looks (Stat path) = true
only_looks (Readlink path) = true
only_looks _ = false

-- the number whose node a call changes: that of the file at its path, for a rename at the first one, or of what it makes
abbrev pub changed_number : Nodes → Call → ℕ → Option ℕ
changed_number nodes (Mkdir path mode) made = Some made
changed_number nodes (Create path mode) made = Some made
changed_number nodes (Write path at bytes) made = path_found nodes path
changed_number nodes (Truncate path size) made = path_found nodes path
changed_number nodes (Unlink path) made = path_found nodes path
changed_number nodes (Rmdir path) made = path_found nodes path
changed_number nodes (Rename from to) made = path_found nodes from
changed_number nodes (Chmod path mode) made = path_found nodes path
changed_number nodes (Symlink path text) made = Some made
changed_number nodes (Guard path on) made = path_found nodes path
changed_number nodes _ made = None

-- what is made in a directory that was found, with these bytes
abbrev pub made_node : Creds → Kind → Path → Mode → List ℕ → Option ℕ → Option Node
made_node creds kind path mode bytes None = None
made_node creds kind path mode bytes (Some dir) = Some (new_node creds kind dir path mode bytes)

-- the node with other bytes
abbrev pub rewritten : (List ℕ → List ℕ) → Option Node → Option Node
rewritten change None = None
rewritten change (Some x) = Some (record x { bytes = change x.bytes })

-- the node, guarded or not
abbrev pub guarded_node : Bool → Option Node → Option Node
guarded_node on None = None
guarded_node on (Some x) = Some (record x { guard = on })

-- the node in the directory that was found, by another name
abbrev pub moved : List ℕ → Option ℕ → Option Node → Option Node
moved name None old = None
moved name (Some dir) None = None
moved name (Some dir) (Some x) = Some (record x { parent = dir; name = name })

-- What becomes of that node: a new one is made, its bytes alone are others, it is gone, its place alone is another, its mode alone, or its
-- guard alone.
abbrev pub changed_node : Nodes → Creds → Call → Option Node → Option Node
changed_node nodes creds (Mkdir path mode) old = made_node creds Directory path mode [] (path_found nodes (dir_of path))
changed_node nodes creds (Create path mode) old = made_node creds Regular path mode [] (path_found nodes (dir_of path))
changed_node nodes creds (Write path at bytes) old = rewritten (put_at at bytes) old
changed_node nodes creds (Truncate path size) old = rewritten (resized size) old
changed_node nodes creds (Unlink path) old = None
changed_node nodes creds (Rmdir path) old = None
changed_node nodes creds (Rename from to) old = moved (name_of to) (path_found nodes (dir_of to)) old
changed_node nodes creds (Chmod path mode) old = moded_node mode.0 old
changed_node nodes creds (Symlink path text) old = made_node creds Link path link_mode text (path_found nodes (dir_of path))
changed_node nodes creds (Guard path on) old = guarded_node on old
changed_node nodes creds _ old = old

-- Which nodes a call changes, and to what: none where it only looks or isn't done; else just one.
pub record ChangesJust (nodes : Nodes) (creds : Creds) (call : Call) (made : ℕ) (reply : Reply) (nodes' : Nodes) : Type 0 where
  pub refused : IsFalse (is_done reply) → nodes' ≡ nodes
  pub looks : IsTrue (only_looks call) → nodes' ≡ nodes
  pub done :
      IsTrue (is_done reply) → IsFalse (only_looks call)
      → (n : ℕ) × (changed_number nodes call made ≡ Some n) × (nodes' ≡ with_node nodes n (changed_node nodes creds call (node_at nodes n)))

-- each call changes just that
abbrev pub CallChangesOne : Type 0
CallChangesOne =
    (nodes : Nodes) (creds : Creds) (call : Call) (made : ℕ) (reply : Reply) (nodes' : Nodes)
    → Apply nodes creds call made reply nodes' → ChangesJust nodes creds call made reply nodes'

-- ---- trees

-- a tree stays a tree through a call, where what it makes gets a new number
abbrev pub TreeStays : Type 0
TreeStays =
    (nodes : Nodes) (creds : Creds) (d : Done) (nodes' : Nodes)
    → IsTree nodes → Apply nodes creds d.call d.made d.reply nodes' → MadeFits nodes d → IsTree nodes'

-- and so through any calls that the tree does one after another
abbrev pub TreeStaysThrough : Type 0
TreeStaysThrough =
    (nodes : Nodes) (creds : Creds) (calls : List Done)
    → IsTree nodes → LegalCalls creds nodes calls → IsTree (batch_nodes creds calls nodes)
