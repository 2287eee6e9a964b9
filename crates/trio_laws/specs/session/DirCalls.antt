-- How the calls on directories are decided by what a session sees, and what they make of the nodes.
use Rattle.std.specs.Prelude.{◌≡◌, ◌≢◌, ℕ, ◌==◌, nat_lt, Bool, true, false, not, ◌||◌, List, [], ◌∷◌, map, take, drop, Option, None, Some, Result, Ok, Err, if◌then◌else◌, IsTrue}
use Rattle.std.specs.Option.{option_map}
use Rattle.trio_rights.specs.Row.{Row}
use Rattle.trio_rights.specs.declared.kind.Kind.{Kind}
use Rattle.trio_rights.specs.declared.kind.Kind.TheVariants.{Regular, Directory, Link}
use Rattle.trio_rights.specs.ByKind.{is_directory}
use Rattle.trio_rights.specs.declared.rights.Creds.{Creds}
use Rattle.trio_rights.specs.declared.rights.Need.TheVariants.{Read as ToRead, Write as ToWrite}
use Rattle.trio_lists.specs.Lists.{In}
use Rattle.trio_lists.specs.Sorting.{sorted_by_name}
use Rattle.trio_layout.specs.Entries.{Listed}
use Rattle.trio_nodes.specs.declared.node.Node.{Node}
use Rattle.trio_nodes.specs.declared.call.Answer.TheVariants.{Done as IsDone, Names}
use Rattle.trio_nodes.specs.declared.call.Call.{Call}
use Rattle.trio_nodes.specs.declared.call.Call.TheVariants.{Mkdir, Create, Unlink, Rmdir, Rename, List as ListNames, Chmod, Symlink}
use Rattle.trio_nodes.specs.declared.call.Done.{Done}
use Rattle.trio_nodes.specs.declared.call.Reply.{Reply}
use Rattle.trio_nodes.specs.declared.call.Reply.TheVariants.{Ok as Replied, NotFound, Exists, NotDir, IsDir, NotEmpty, Denied, IntoItself}
use Rattle.trio_nodes.specs.Nodes.{Nodes, node_at, with_node, find_named, count_in, entry_name, names_in}
use Rattle.trio_nodes.specs.Walk.{Path, and_then, dir_of, name_of, is_above, is_root, need_at, walk, walk_into}
use Rattle.trio_nodes.specs.Apply.{LacksRoom, link_mode, makes_file, new_node}
use Rattle.trio_nodes.specs.Tree.{IsTree}
use Rattle.trio_desk.specs.Contents.{Rights}
use Rattle.trio_desk.specs.Agrees.{HasRights}
use Rattle.trio_desk.specs.Call.{DeskSeen}
use Rattle.trio_desk.specs.Edits.{CallDoes, DoesCall, InHand, MayShow}
use Rattle.trio_laws.specs.session.FileCalls.{enters, gives}
use Rattle.trio_laws.specs.session.Sees.{Lists}

-- ---- walks into a directory

-- the paths whose directories a call enters for writing
abbrev pub write_paths : Call → List Path
write_paths (Mkdir path mode) = dir_of path ∷ []
write_paths (Create path mode) = dir_of path ∷ []
write_paths (Unlink path) = dir_of path ∷ []
write_paths (Rmdir path) = dir_of path ∷ []
write_paths (Rename from to) = dir_of from ∷ dir_of to ∷ []
write_paths (Symlink path text) = dir_of path ∷ []
write_paths _ = []

-- how the directory of a path is entered, by how the walk to it ends
abbrev pub IsEntered : Nodes → Creds → List Path → Path → Result ℕ Reply → Type 0
IsEntered nodes creds writes path (Err reply) = walk_into nodes creds writes path ≡ Err reply
IsEntered nodes creds writes path (Ok n) =
    (r : Rights) → HasRights r (node_at nodes n) → walk_into nodes creds writes path ≡ enters creds (need_at writes path) n r

-- A walk that is refused enters nothing; one that comes to a directory enters it by its rights.
abbrev pub EntersWalked : Type 0
EntersWalked =
    (nodes : Nodes) (creds : Creds) (writes : List Path) (path : Path) (end : Result ℕ Reply)
    → walk nodes creds writes path ≡ end → IsEntered nodes creds writes path end

-- Write is needed of each directory that is entered for writing.
abbrev pub NeedsWrite : Type 0
NeedsWrite = (writes : List Path) (path : Path) → In path writes → need_at writes path ≡ ToWrite

-- ---- refusals by a path

-- why a call on directories is refused by its paths alone, if it is
abbrev pub early_refusal : Call → Option Reply
early_refusal (Mkdir path mode) = if is_root path then Some Exists else None
early_refusal (Create path mode) = if is_root path then Some Exists else None
early_refusal (Unlink path) = if is_root path then Some IsDir else None
early_refusal (Rmdir path) = if is_root path then Some Denied else None
early_refusal (Rename from to) =
    if is_root from then Some Denied
    else (if is_root to then Some Exists
    else (if is_above from to then Some IntoItself else None))
early_refusal (Chmod path mode) = if is_root path then Some Denied else None
early_refusal (Symlink path text) = if is_root path then Some Exists else None
early_refusal _ = None

-- The paths refuse the call before any walk: nothing changes.
abbrev pub RefusedByPath : Type 0
RefusedByPath =
    (desk : DeskSeen) (d : Done) (nodes : Nodes)
    → early_refusal d.call ≡ Some d.reply → d.made ≡ 0 → DoesCall desk d nodes nodes

-- ---- calls on one name of a directory

-- the path of a call on one name: Mkdir, Create, Symlink, Unlink, Rmdir and Chmod
abbrev pub name_path : Call → Option Path
name_path (Mkdir path mode) = Some path
name_path (Create path mode) = Some path
name_path (Unlink path) = Some path
name_path (Rmdir path) = Some path
name_path (Chmod path mode) = Some path
name_path (Symlink path text) = Some path
name_path _ = None

-- The walk into the directory of the path is refused: so is the call, and nothing changes.
abbrev pub NameRefusedByWalk : Type 0
NameRefusedByWalk =
    (desk : DeskSeen) (d : Done) (nodes : Nodes) (path : Path)
    → name_path d.call ≡ Some path → early_refusal d.call ≡ None
    → walk_into nodes desk.creds (write_paths d.call) (dir_of path) ≡ Err d.reply → d.made ≡ 0
    → DoesCall desk d nodes nodes

-- The call comes to this directory: its path alone doesn't refuse it, and the walk enters the directory of the path.
pub record ComesInto (nodes : Nodes) (creds : Creds) (call : Call) (path : Path) (dir : ℕ) : Type 0 where
  pub on : name_path call ≡ Some path
  pub early : early_refusal call ≡ None
  pub into : walk_into nodes creds (write_paths call) (dir_of path) ≡ Ok dir

-- why such a call is refused by what its name is found to be, if it is: what is made must not be there, and all else must
abbrev pub name_refusal : Call → Option ℕ → Option Reply
name_refusal call (Some n) = if makes_file call then Some Exists else None
name_refusal call None = if makes_file call then None else Some NotFound

-- The name is there, or is not: nothing changes.
abbrev pub RefusedByName : Type 0
RefusedByName =
    (desk : DeskSeen) (d : Done) (nodes : Nodes) (path : Path) (dir : ℕ) (found : Option ℕ)
    → ComesInto nodes desk.creds d.call path dir → find_named nodes dir (name_of path) ≡ found
    → name_refusal d.call found ≡ Some d.reply → d.made ≡ 0
    → DoesCall desk d nodes nodes

-- why such a call is refused at a file with these rights and so many entries, if it is
abbrev pub entry_refusal : Creds → Rights → ℕ → Call → Option Reply
entry_refusal creds r count (Unlink path) = if is_directory r.kind then Some IsDir else None
entry_refusal creds r count (Rmdir path) =
    if not (is_directory r.kind) then Some NotDir else (if nat_lt 0 count then Some NotEmpty else None)
entry_refusal creds r count (Chmod path mode) = if not (creds.uid == r.uid || creds.uid == 0) then Some Denied else None
entry_refusal creds r count _ = None

-- The name is there, and the file refuses the call: nothing changes.
abbrev pub RefusedAtEntry : Type 0
RefusedAtEntry =
    (desk : DeskSeen) (d : Done) (nodes : Nodes) (path : Path) (dir n : ℕ) (r : Rights) (count : ℕ)
    → ComesInto nodes desk.creds d.call path dir → find_named nodes dir (name_of path) ≡ Some n
    → HasRights r (node_at nodes n) → count_in nodes n ≡ count
    → entry_refusal desk.creds r count d.call ≡ Some d.reply → d.made ≡ 0
    → DoesCall desk d nodes nodes

-- what a call makes in this directory
abbrev pub made_in : Creds → ℕ → Call → Option Node
made_in creds dir (Mkdir path mode) = Some (new_node creds Directory dir path mode [])
made_in creds dir (Create path mode) = Some (new_node creds Regular dir path mode [])
made_in creds dir (Symlink path text) = Some (new_node creds Link dir path link_mode text)
made_in creds dir _ = None

-- The name is free, and so is a number: there is a new file.
abbrev pub MakesEntry : Type 0
MakesEntry =
    (desk : DeskSeen) (d : Done) (nodes : Nodes) (path : Path) (dir : ℕ)
    → ComesInto nodes desk.creds d.call path dir → IsTrue (makes_file d.call) → find_named nodes dir (name_of path) ≡ None
    → node_at nodes d.made ≡ None → d.made ≢ 0 → d.reply ≡ Replied IsDone
    → DoesCall desk d nodes (with_node nodes d.made (made_in desk.creds dir d.call))

-- the call removes a file: Unlink and Rmdir
abbrev pub removes_file : Call → Bool
removes_file (Unlink path) = true
removes_file (Rmdir path) = true
removes_file _ = false

-- The name is there, and nothing refuses that its file goes: it is gone.
abbrev pub RemovesEntry : Type 0
RemovesEntry =
    (desk : DeskSeen) (d : Done) (nodes : Nodes) (path : Path) (dir n : ℕ) (r : Rights) (count : ℕ)
    → ComesInto nodes desk.creds d.call path dir → IsTrue (removes_file d.call) → find_named nodes dir (name_of path) ≡ Some n
    → HasRights r (node_at nodes n) → count_in nodes n ≡ count
    → entry_refusal desk.creds r count d.call ≡ None → d.reply ≡ Replied IsDone → d.made ≡ 0
    → DoesCall desk d nodes (with_node nodes n None)

-- The name is free, but there is no room for the pages or the number that are wanted: nothing changes.
abbrev pub NoRoomToMake : Type 0
NoRoomToMake =
    (desk : DeskSeen) (d : Done) (nodes : Nodes) (path : Path) (dir : ℕ)
    → ComesInto nodes desk.creds d.call path dir → IsTrue (makes_file d.call) → find_named nodes dir (name_of path) ≡ None
    → LacksRoom d.call d.reply → d.made ≡ 0
    → DoesCall desk d nodes nodes

-- ---- renames

-- One of the walks of a rename is refused, first that into the old directory, then that into the new one: nothing changes.
abbrev pub RenameRefusedByWalk : Type 0
RenameRefusedByWalk =
    (desk : DeskSeen) (d : Done) (nodes : Nodes) (from to : Path)
    → d.call ≡ Rename from to → early_refusal d.call ≡ None
    → and_then (walk_into nodes desk.creds (write_paths d.call) (dir_of from))
    (λ dir. walk_into nodes desk.creds (write_paths d.call) (dir_of to))
    ≡ Err d.reply
    → d.made ≡ 0 → DoesCall desk d nodes nodes

-- A rename comes to these directories: its paths alone don't refuse it, and its walks enter the old one and the new one.
pub record ComesAcross (nodes : Nodes) (creds : Creds) (call : Call) (from to : Path) (dir new_dir : ℕ) : Type 0 where
  pub on : call ≡ Rename from to
  pub early : early_refusal call ≡ None
  pub out : walk_into nodes creds (write_paths call) (dir_of from) ≡ Ok dir
  pub into : walk_into nodes creds (write_paths call) (dir_of to) ≡ Ok new_dir

-- why a rename is refused by what its old and its new name are found to be, if it is
abbrev pub rename_refusal : Option ℕ → Option ℕ → Option Reply
rename_refusal None there = Some NotFound
rename_refusal (Some n) (Some m) = Some Exists
rename_refusal (Some n) None = None

-- The old name is not there, or the new one is: nothing changes.
abbrev pub RenameRefusedByName : Type 0
RenameRefusedByName =
    (desk : DeskSeen) (d : Done) (nodes : Nodes) (from to : Path) (dir new_dir : ℕ) (found there : Option ℕ)
    → ComesAcross nodes desk.creds d.call from to dir new_dir
    → find_named nodes dir (name_of from) ≡ found → find_named nodes new_dir (name_of to) ≡ there
    → rename_refusal found there ≡ Some d.reply → d.made ≡ 0
    → DoesCall desk d nodes nodes

-- a node in this directory and by this name
abbrev pub placed_as : ℕ → List ℕ → Node → Node
placed_as dir name x = record x { parent = dir; name = name }

-- the nodes with one file in this directory and by this name
abbrev pub with_place : ℕ → ℕ → List ℕ → Nodes → Nodes
with_place n dir name nodes = with_node nodes n (option_map (placed_as dir name) (node_at nodes n))

-- a node by this name
abbrev pub named_as : List ℕ → Node → Node
named_as name x = record x { name = name }

-- the nodes with one file by this name
abbrev pub with_name : ℕ → List ℕ → Nodes → Nodes
with_name n name nodes = with_node nodes n (option_map (named_as name) (node_at nodes n))

-- The old name is there, and the new one is free: the file is in the new directory by the new name.
abbrev pub MovesEntry : Type 0
MovesEntry =
    (desk : DeskSeen) (d : Done) (nodes : Nodes) (from to : Path) (dir new_dir n : ℕ)
    → ComesAcross nodes desk.creds d.call from to dir new_dir
    → find_named nodes dir (name_of from) ≡ Some n → find_named nodes new_dir (name_of to) ≡ None
    → d.reply ≡ Replied IsDone → d.made ≡ 0
    → DoesCall desk d nodes (with_place n new_dir (name_of to) nodes)

-- Within one directory it has another name, and nothing else changes.
abbrev pub RetitlesEntry : Type 0
RetitlesEntry =
    (desk : DeskSeen) (d : Done) (nodes : Nodes) (from to : Path) (dir n : ℕ)
    → ComesAcross nodes desk.creds d.call from to dir dir
    → find_named nodes dir (name_of from) ≡ Some n → find_named nodes dir (name_of to) ≡ None
    → d.reply ≡ Replied IsDone → d.made ≡ 0
    → DoesCall desk d nodes (with_name n (name_of to) nodes)

-- The old name is there, and the new one is free, but there is no room for the pages that are wanted: nothing changes.
abbrev pub NoRoomToMove : Type 0
NoRoomToMove =
    (desk : DeskSeen) (d : Done) (nodes : Nodes) (from to : Path) (dir new_dir n : ℕ)
    → ComesAcross nodes desk.creds d.call from to dir new_dir
    → find_named nodes dir (name_of from) ≡ Some n → find_named nodes new_dir (name_of to) ≡ None
    → LacksRoom d.call d.reply → d.made ≡ 0
    → DoesCall desk d nodes nodes

-- ---- lists of names

-- The walk of a List is refused: so is the call, and nothing changes.
abbrev pub ListRefusedByWalk : Type 0
ListRefusedByWalk =
    (desk : DeskSeen) (d : Done) (nodes : Nodes) (path : Path) (from : ℕ)
    → d.call ≡ ListNames path from → walk nodes desk.creds [] path ≡ Err d.reply → d.made ≡ 0 → DoesCall desk d nodes nodes

-- why a file with these rights isn't listed, if it isn't
abbrev pub list_refusal : Creds → Rights → Option Reply
list_refusal creds r = if not (is_directory r.kind) then Some NotDir else (if not (gives creds ToRead r) then Some Denied else None)

-- The walk comes to a file that isn't listed: nothing changes.
abbrev pub ListRefusedByCheck : Type 0
ListRefusedByCheck =
    (desk : DeskSeen) (d : Done) (nodes : Nodes) (path : Path) (from n : ℕ) (r : Rights)
    → d.call ≡ ListNames path from → walk nodes desk.creds [] path ≡ Ok n → HasRights r (node_at nodes n)
    → list_refusal desk.creds r ≡ Some d.reply → d.made ≡ 0
    → DoesCall desk d nodes nodes

-- It comes to a directory that is: the reply has the count of its entries, and at most 64 of its names from a place on.
abbrev pub ListsNames : Type 0
ListsNames =
    (desk : DeskSeen) (d : Done) (nodes : Nodes) (path : Path) (from n : ℕ) (r : Rights) (count : ℕ) (names : List (List ℕ × Kind))
    → d.call ≡ ListNames path from → walk nodes desk.creds [] path ≡ Ok n → HasRights r (node_at nodes n)
    → list_refusal desk.creds r ≡ None → count_in nodes n ≡ count → names_in nodes n ≡ names
    → d.reply ≡ Replied (Names count (take 64 (drop from names))) → d.made ≡ 0
    → DoesCall desk d nodes nodes

-- the name and the kind of an entry, as its slot says them
abbrev pub name_and_kind : Listed → List ℕ × Kind
name_and_kind l = (l.entry.name, l.entry.kind)

-- those of entries, in the byte order of names
abbrev pub names_of : List Listed → List (List ℕ × Kind)
names_of entries = sorted_by_name entry_name (map name_and_kind entries)

-- The names of a directory are those of the entries that it lists. (In a tree no two of them are one.)
abbrev pub NamesInOrder : Type 0
NamesInOrder =
    (nodes : Nodes) (dir : ℕ) (entries : List Listed)
    → IsTree nodes → Lists nodes dir entries → names_in nodes dir ≡ names_of entries

-- ---- trees

-- What a call makes of a tree is a tree.
abbrev pub DoneIsTree : Type 0
DoneIsTree = (desk : DeskSeen) (d : Done) (nodes after : Nodes) → IsTree nodes → DoesCall desk d nodes after → IsTree after

-- So it is of all nodes that what is in hand may show.
abbrev pub ShownIsTree : Type 0
ShownIsTree =
    (desk : DeskSeen) (h h' : InHand) (d : Done) (change : Nodes → Nodes) → CallDoes desk h h' d change
    → (nodes nodes' : Nodes) (rows : List (Option Row)) → MayShow desk h h' nodes nodes' rows → IsTree (change nodes')
