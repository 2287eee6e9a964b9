-- The grants that a call needs, in the order in which it asks for them, and those of them that it has to ask its desk for. They are read
-- from the nodes alone.
use Rattle.std.specs.Prelude.{ℕ, ◌+◌, ◌==◌, nat_lt, Bool, true, false, not, ◌&&◌, ◌||◌, List, [], ◌∷◌, ◌++◌, length, is_some, Option, None, Some, Result, Ok, Err, if◌then◌else◌}
use Rattle.std.specs.List.{list_any}
use Rattle.std.specs.Option.{option_map_or}
use Rattle.trio_rights.specs.ByKind.{is_directory, is_link, takes_offsets}
use Rattle.trio_rights.specs.declared.rights.Creds.{Creds}
use Rattle.trio_rights.specs.declared.rights.Need.{Need}
use Rattle.trio_rights.specs.declared.rights.Need.TheVariants.{Read as ToRead, Write as ToWrite}
use Rattle.trio_nodes.specs.declared.grant.GrantKind.{GrantKind}
use Rattle.trio_nodes.specs.declared.grant.GrantKind.TheVariants.{Read, Write, Hold}
use Rattle.trio_nodes.specs.declared.node.Node.{Node}
use Rattle.trio_nodes.specs.declared.call.Call.{Call}
use Rattle.trio_nodes.specs.declared.call.Call.TheVariants.{Mkdir, Create, Write as WriteCall, Read as ReadCall, Truncate, Unlink, Rmdir, Rename, List as ListNames, Stat, Symlink, Readlink, Guard}
use Rattle.trio_nodes.specs.declared.call.Reply.{Reply}
use Rattle.trio_nodes.specs.declared.call.Reply.TheVariants.{Denied}
use Rattle.trio_nodes.specs.Nodes.{Nodes, node_at, find_named}
use Rattle.trio_nodes.specs.Walk.{Path, dir_of, enter, is_above, is_root, lacks, name_of, need_at, walk, walk_into}
use Rattle.trio_nodes.specs.Apply.{largest_size}

-- a grant that a call needs
pub record Needed : Type 0 where
  pub ino : ℕ
  pub kind : GrantKind

-- the grant by which a file is taken for what is needed of it
abbrev pub kind_for : Need → GrantKind
kind_for ToRead = Read
kind_for ToWrite = Write

-- A grant on a file whose rights are checked before it: none where they don't give what is needed, unless the file is the root and
-- nothing shows its rights. Then the grant comes first, and its refusal is that check's.
abbrev pub needs_if : Bool → ℕ → GrantKind → Bool → List Needed
needs_if shown ino kind refused =
    if refused && (shown || not (ino == 1)) then [] else record { ino = ino; kind = kind } ∷ []

-- ---- walks

-- the grants of one directory and of the rest of a walk, by what comes of entering it
abbrev pub entered_needs : Bool → ℕ → GrantKind → Result ℕ Reply → (ℕ → List Needed) → List Needed
entered_needs shown ino kind (Ok dir) rest = needs_if shown ino kind false ++ rest dir
entered_needs shown ino kind (Err Denied) rest = needs_if shown ino kind true
entered_needs shown ino kind (Err reply) rest = []

-- the grants from a file on, where there is one
abbrev pub found_needs : Option ℕ → (ℕ → List Needed) → List Needed
found_needs None rest = []
found_needs (Some child) rest = rest child

-- the grants at the file to which a walk has come; none where it was refused
abbrev pub reached_by : Result ℕ Reply → (ℕ → List Needed) → List Needed
reached_by (Ok n) rest = rest n
reached_by (Err reply) rest = []

-- the grants of a walk from a file on, whose path has been passed
abbrev pub needs_from : Nodes → Creds → Bool → List Path → Path → ℕ → Path → List Needed
needs_from nodes creds shown writes passed at [] = []
needs_from nodes creds shown writes passed at (name ∷ names) =
    entered_needs shown at (kind_for (need_at writes passed)) (enter nodes creds (need_at writes passed) at)
    (λ dir. found_needs (find_named nodes dir name) (λ child. needs_from nodes creds shown writes (passed ++ name ∷ []) child names))

-- The grants of a walk: Write on each directory met whose path is among these, Read on any other, none once a check has refused.
-- `shown` says whether a lease shows the rights of the root.
abbrev pub walk_needs : Nodes → Creds → Bool → List Path → Path → List Needed
walk_needs nodes creds shown writes path = needs_from nodes creds shown writes [] 1 path

-- the grants of a walk into a directory: those of the walk to it, and its own
abbrev pub into_needs : Nodes → Creds → Bool → List Path → Path → List Needed
into_needs nodes creds shown writes path =
    walk_needs nodes creds shown writes path
    ++ reached_by (walk nodes creds writes path)
    (λ n. entered_needs shown n (kind_for (need_at writes path)) (enter nodes creds (need_at writes path) n) (λ dir. []))

-- ---- calls of files

-- the grant of a call on a file, where there is one
abbrev pub node_needs : ℕ → Option Node → (ℕ → Node → List Needed) → List Needed
node_needs n None rest = []
node_needs n (Some x) rest = rest n x

-- the grant of a call on the file that its walk has reached; none where that has refused
abbrev pub reached_needs : Nodes → Result ℕ Reply → (ℕ → Node → List Needed) → List Needed
reached_needs nodes (Err reply) rest = []
reached_needs nodes (Ok n) rest = node_needs n (node_at nodes n) rest

-- of a call that changes the bytes of a regular file, so that it ends at `end`: none of any other file, nor where that is past the
-- largest size
abbrev pub writing_needs : Creds → Bool → ℕ → ℕ → Node → List Needed
writing_needs creds shown end n x =
    if not (takes_offsets x.kind) then []
    else (if nat_lt largest_size end && not (lacks creds ToWrite x) then [] else needs_if shown n Write (lacks creds ToWrite x))

-- of a call that reads the bytes of a regular file
abbrev pub reading_needs : Creds → Bool → ℕ → Node → List Needed
reading_needs creds shown n x = if not (takes_offsets x.kind) then [] else needs_if shown n Read (lacks creds ToRead x)

-- of a call that reads the text of a link
abbrev pub text_needs : Creds → Bool → ℕ → Node → List Needed
text_needs creds shown n x = if not (is_link x.kind) then [] else needs_if shown n Read (lacks creds ToRead x)

-- of a call that guards a regular file, or ends that
abbrev pub guarding_needs : Creds → Bool → ℕ → Node → List Needed
guarding_needs creds shown n x = if not (takes_offsets x.kind) then [] else needs_if shown n Write (lacks creds ToWrite x)

-- the grant of each of these calls on its file, after its walk
abbrev pub own_needs : Creds → Bool → Call → ℕ → Node → List Needed
own_needs creds shown (WriteCall path at bytes) n x = writing_needs creds shown (at + length bytes) n x
own_needs creds shown (Truncate path size) n x = writing_needs creds shown size n x
own_needs creds shown (ReadCall path at len) n x = reading_needs creds shown n x
own_needs creds shown (Stat path) n x = needs_if shown n Read (lacks creds ToRead x)
own_needs creds shown (Readlink path) n x = text_needs creds shown n x
own_needs creds shown (Guard path on) n x = guarding_needs creds shown n x
own_needs creds shown call n x = []

-- the path of such a call
abbrev pub path_of : Call → Path
path_of (WriteCall path at bytes) = path
path_of (Truncate path size) = path
path_of (ReadCall path at len) = path
path_of (Stat path) = path
path_of (Readlink path) = path
path_of (Guard path on) = path
path_of call = []

-- The grants of a call of a file: those of its walk, and the file's own.
abbrev pub file_needs : Nodes → Creds → Bool → Call → List Needed
file_needs nodes creds shown call =
    walk_needs nodes creds shown [] (path_of call) ++ reached_needs nodes (walk nodes creds [] (path_of call)) (own_needs creds shown call)

-- ---- calls on directories

-- the hold on a file that is removed, by a call that removes directories or by one that removes all other files
abbrev pub removing_needs : Bool → ℕ → Node → List Needed
removing_needs true n x = if is_directory x.kind then record { ino = n; kind = Hold } ∷ [] else []
removing_needs false n x = if is_directory x.kind then [] else record { ino = n; kind = Hold } ∷ []

-- what is needed of the file of this name, where there is one
abbrev pub named_needs : Nodes → ℕ → List ℕ → (ℕ → Node → List Needed) → List Needed
named_needs nodes dir name rest = option_map_or (λ n. node_needs n (node_at nodes n) rest) (find_named nodes dir name) []

-- of a call that removes a directory, or any other file: its directory for writing, and the file held
abbrev pub removal_needs : Nodes → Creds → Bool → Bool → Path → List Needed
removal_needs nodes creds shown of_dirs path =
    into_needs nodes creds shown (dir_of path ∷ []) (dir_of path)
    ++ reached_by (walk_into nodes creds (dir_of path ∷ []) (dir_of path)) (λ dir. named_needs nodes dir (name_of path) (removing_needs of_dirs))

-- of a rename whose both directories are entered: the file held, where it moves to another and nothing has the new name there
abbrev pub moving_needs : Nodes → Path → Path → ℕ → ℕ → List Needed
moving_needs nodes from to dir new_dir =
    named_needs nodes dir (name_of from) (λ n x.
    if is_some (find_named nodes new_dir (name_of to)) then [] else (if dir == new_dir then [] else record { ino = n; kind = Hold } ∷ []))

-- of a rename: both directories for writing, on both walks
abbrev pub rename_needs : Nodes → Creds → Bool → Path → Path → List Needed
rename_needs nodes creds shown from to =
    let writes = dir_of from ∷ dir_of to ∷ [] in
    into_needs nodes creds shown writes (dir_of from)
    ++ reached_by (walk_into nodes creds writes (dir_of from)) (λ dir.
    into_needs nodes creds shown writes (dir_of to)
    ++ reached_by (walk_into nodes creds writes (dir_of to)) (λ new_dir. moving_needs nodes from to dir new_dir))

-- of a list, at the file to which its walk has come
abbrev pub listing_needs : Creds → Bool → ℕ → Node → List Needed
listing_needs creds shown n x = if is_directory x.kind then needs_if shown n Read (lacks creds ToRead x) else []

-- The grants of a call on a directory, in the order in which it asks for them; none once a check has refused.
abbrev pub dir_needs : Nodes → Creds → Bool → Call → List Needed
dir_needs nodes creds shown (Mkdir path mode) = if is_root path then [] else into_needs nodes creds shown (dir_of path ∷ []) (dir_of path)
dir_needs nodes creds shown (Create path mode) = if is_root path then [] else into_needs nodes creds shown (dir_of path ∷ []) (dir_of path)
dir_needs nodes creds shown (Symlink path text) = if is_root path then [] else into_needs nodes creds shown (dir_of path ∷ []) (dir_of path)
dir_needs nodes creds shown (Unlink path) = if is_root path then [] else removal_needs nodes creds shown false path
dir_needs nodes creds shown (Rmdir path) = if is_root path then [] else removal_needs nodes creds shown true path
dir_needs nodes creds shown (Rename from to) =
    if is_root from then [] else (if is_root to then [] else (if is_above from to then [] else rename_needs nodes creds shown from to))
dir_needs nodes creds shown (ListNames path from) =
    walk_needs nodes creds shown [] path ++ reached_needs nodes (walk nodes creds [] path) (listing_needs creds shown)
dir_needs nodes creds shown call = []

-- The grants of a Chmod, in the order in which it asks for them: those of its walk into the directory of the path, each for reading.
abbrev pub chmod_needs : Nodes → Creds → Bool → Path → List Needed
chmod_needs nodes creds shown path = if is_root path then [] else into_needs nodes creds shown [] (dir_of path)

-- ---- what is asked

-- a grant of this kind serves that need: its own kind, and one for writing serves reading
abbrev pub serves_kind : GrantKind → GrantKind → Bool
serves_kind Read Read = true
serves_kind Write Read = true
serves_kind Write Write = true
serves_kind Hold Hold = true
serves_kind got need = false

-- a grant that was got serves a need on the same file
abbrev pub serves_need : Needed → Needed → Bool
serves_need need got = got.ino == need.ino && serves_kind got.kind need.kind

-- those of the needs that nothing serves that is there already, nor what was got before them
abbrev pub asked_beside : (Needed → Bool) → List Needed → List Needed → List Needed
asked_beside served got [] = []
asked_beside served got (n ∷ ns) =
    if served n || list_any (serves_need n) got then asked_beside served got ns else n ∷ asked_beside served (got ++ n ∷ []) ns

-- The grants that are asked: those of the needs that no lease serves that is there already or was got by an earlier one of them.
abbrev pub asked : (Needed → Bool) → List Needed → List Needed
asked served needs = asked_beside served [] needs
