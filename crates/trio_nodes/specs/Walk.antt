-- How a path is walked from the root down, with the rights that each directory asks.
use Rattle.std.specs.Prelude.{ℕ, ◌-◌, Bool, true, false, not, List, [], ◌∷◌, ◌++◌, length, take, Option, None, Some, Result, Ok, Err, if◌then◌else◌, slice_index_or}
use Rattle.std.specs.List.{list_any}
use Rattle.std.specs.Option.{ok_or}
use Rattle.std.specs.Str.{bytes_eq}
use Rattle.trio_rights.specs.ByKind.{is_directory}
use Rattle.trio_rights.specs.declared.rights.Creds.{Creds}
use Rattle.trio_rights.specs.declared.rights.Need.{Need}
use Rattle.trio_rights.specs.declared.rights.Need.TheVariants.{Read, Write}
use Rattle.trio_rights.specs.Rights.{permits}
use Rattle.trio_nodes.specs.declared.node.Node.{Node}
use Rattle.trio_nodes.specs.declared.call.Reply.{Reply}
use Rattle.trio_nodes.specs.declared.call.Reply.TheVariants.{NotFound, NotDir, Denied}
use Rattle.trio_nodes.specs.Nodes.{Nodes, node_at, find_named}

-- ---- paths, as names from the root down

-- a path is the list of its names
abbrev pub Path : Type 0
Path = List (List ℕ)

-- the path is the root's, which has no names
abbrev pub is_root : Path → Bool
is_root [] = true
is_root (name ∷ names) = false

-- the path of the directory that lists a file; of the root it says nothing
abbrev pub dir_of : Path → Path
dir_of path = take (length path - 1) path

-- the name in that directory
abbrev pub name_of : Path → List ℕ
name_of path = slice_index_or path (length path - 1) []

-- two paths are the same, name by name
abbrev pub same_path : Path → Path → Bool
same_path [] [] = true
same_path [] (q ∷ qs) = false
same_path (p ∷ ps) [] = false
same_path (p ∷ ps) (q ∷ qs) = if bytes_eq p q then same_path ps qs else false

-- the first path is above the second, name by name
abbrev pub is_above : Path → Path → Bool
is_above ps [] = false
is_above [] (q ∷ qs) = true
is_above (p ∷ ps) (q ∷ qs) = if bytes_eq p q then is_above ps qs else false

-- ---- walks

-- the rights of the node don't give what is needed
abbrev pub lacks : Creds → Need → Node → Bool
lacks creds need x = not (permits creds x.kind x.mode x.uid x.gid need)

-- a directory is entered: it has to be one, and to give what is needed
abbrev pub enter_node : Creds → Need → ℕ → Option Node → Result ℕ Reply
enter_node creds need n None = Err NotFound
enter_node creds need n (Some x) =
    if not (is_directory x.kind) then Err NotDir else (if lacks creds need x then Err Denied else Ok n)

-- the directory of this number is entered
abbrev pub enter : Nodes → Creds → Need → ℕ → Result ℕ Reply
enter nodes creds need n = enter_node creds need n (node_at nodes n)

-- one step after another; the first refusal ends them
abbrev pub and_then : Result ℕ Reply → (ℕ → Result ℕ Reply) → Result ℕ Reply
and_then (Ok n) f = f n
and_then (Err reply) f = Err reply

-- Write is needed of a directory whose path is among these, Read of any other
abbrev pub need_at : List Path → Path → Need
need_at writes path = if list_any (same_path path) writes then Write else Read

-- From a file on, whose path has been passed: each further name is looked up in the directory that was reached, once it is entered.
abbrev pub walk_from : Nodes → Creds → List Path → Path → ℕ → Path → Result ℕ Reply
walk_from nodes creds writes passed at [] = Ok at
walk_from nodes creds writes passed at (name ∷ names) =
    and_then (enter nodes creds (need_at writes passed) at)
    (λ dir. and_then (ok_or (find_named nodes dir name) NotFound) (λ child. walk_from nodes creds writes (passed ++ name ∷ []) child names))

-- the number of the file at this path
abbrev pub walk : Nodes → Creds → List Path → Path → Result ℕ Reply
walk nodes creds writes path = walk_from nodes creds writes [] 1 path

-- the number of the directory at this path, which is entered too
abbrev pub walk_into : Nodes → Creds → List Path → Path → Result ℕ Reply
walk_into nodes creds writes path = and_then (walk nodes creds writes path) (enter nodes creds (need_at writes path))
