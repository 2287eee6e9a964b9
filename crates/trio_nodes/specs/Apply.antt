-- What each call does to the tree, and what it is replied. The checks of a call are in the order in which they are written.
use Rattle.std.specs.Prelude.{◌≡◌, ℕ, ◌+◌, ◌-◌, ◌<◌, ◌==◌, nat_lt, Bool, true, false, not, ◌||◌, ◌⊎◌, List, [], ◌∷◌, ◌++◌, length, take, drop, replicate, Option, None, Some, is_some, Result, Ok, Err, if◌then◌else◌, IsTrue}
use Rattle.std.specs.Option.{ok_or}
use Rattle.trio_rights.specs.declared.kind.Kind.{Kind}
use Rattle.trio_rights.specs.declared.kind.Kind.TheVariants.{Regular, Directory, Link}
use Rattle.trio_rights.specs.ByKind.{is_directory, is_link}
use Rattle.trio_rights.specs.declared.rights.Creds.{Creds}
use Rattle.trio_rights.specs.declared.rights.Mode.{Mode}
use Rattle.trio_rights.specs.declared.rights.Need.TheVariants.{Read as ToRead, Write as ToWrite}
use Rattle.trio_nodes.specs.declared.node.Node.{Node}
use Rattle.trio_nodes.specs.declared.call.Answer.{Answer}
use Rattle.trio_nodes.specs.declared.call.Answer.TheVariants.{Done, Count, Bytes, Names, Stat as IsStat}
use Rattle.trio_nodes.specs.declared.call.Call.{Call}
use Rattle.trio_nodes.specs.declared.call.Call.TheVariants.{Mkdir, Create, Write, Read, Truncate, Unlink, Rmdir, Rename, List as ListNames, Stat, Chmod, Symlink, Readlink, Guard}
use Rattle.trio_nodes.specs.declared.call.Reply.{Reply}
use Rattle.trio_nodes.specs.declared.call.Reply.TheVariants.{Ok as Replied, NotFound, Exists, NotDir, IsDir, NotEmpty, Denied, IntoItself, NoSpace, NoInodes, TooLarge, IsLink, NotLink}
use Rattle.trio_nodes.specs.Nodes.{Nodes, node_at, with_node, find_named, count_in, names_in}
use Rattle.trio_nodes.specs.Walk.{Path, is_root, dir_of, name_of, is_above, lacks, walk, walk_into}

-- the reply to a call, and the nodes after it
pub record Applied : Type 0 where
  pub reply : Reply
  pub nodes : Nodes

-- a refusal changes nothing
abbrev pub refused : Nodes → Reply → Applied
refused nodes reply = record { reply = reply; nodes = nodes }

-- the call is done; these are the nodes then
abbrev pub done : Nodes → Answer → Applied
done nodes answer = record { reply = Replied answer; nodes = nodes }

-- what is made of a number that a walk has reached; a walk that is refused ends the call
abbrev pub reached : Nodes → Result ℕ Reply → (ℕ → Applied) → Applied
reached nodes (Ok n) f = f n
reached nodes (Err reply) f = refused nodes reply

-- what is made of a node; there is one where a walk has come
abbrev pub of_node : Nodes → Option Node → (Node → Applied) → Applied
of_node nodes (Some x) f = f x
of_node nodes None f = refused nodes NotFound

-- the file at a path, and its node
abbrev pub at_file : Nodes → Creds → Path → (ℕ → Node → Applied) → Applied
at_file nodes creds path f = reached nodes (walk nodes creds [] path) (λ n. of_node nodes (node_at nodes n) (f n))

-- the directory of a path is entered, these directories for writing
abbrev pub in_directory : Nodes → Creds → List Path → Path → (ℕ → Applied) → Applied
in_directory nodes creds writes path f = reached nodes (walk_into nodes creds writes (dir_of path)) f

-- the file of a path in its directory, which has been entered
abbrev pub listed_in : Nodes → ℕ → Path → (ℕ → Node → Applied) → Applied
listed_in nodes dir path f = reached nodes (ok_or (find_named nodes dir (name_of path)) NotFound) (λ n. of_node nodes (node_at nodes n) (f n))

-- ---- bytes of a file

-- no file may end past so many bytes
abbrev pub largest_size : ℕ
largest_size = 33554432

-- cut, or grown by zeros
abbrev pub resized : ℕ → List ℕ → List ℕ
resized size bytes = take size (bytes ++ replicate (size - length bytes) 0)

-- these bytes put at a place, where a gap before them is zeros; no bytes change nothing
abbrev pub put_at : ℕ → List ℕ → List ℕ → List ℕ
put_at at [] old = old
put_at at (b ∷ bs) old = resized at old ++ (b ∷ bs) ++ drop (at + length (b ∷ bs)) old

-- ---- the calls

-- what is made, with these bytes; it isn't guarded
abbrev pub new_node : Creds → Kind → ℕ → Path → Mode → List ℕ → Node
new_node creds kind dir path mode bytes = record {
  parent = dir;
  name = name_of path;
  kind = kind;
  mode = mode;
  uid = creds.uid;
  gid = creds.gid;
  guard = false;
  bytes = bytes;
}

-- a new file with the caller's uid and gid
abbrev pub make : Nodes → Creds → Kind → Path → Mode → List ℕ → ℕ → Applied
make nodes creds kind path mode bytes made =
    if is_root path then refused nodes Exists else
    in_directory nodes creds (dir_of path ∷ []) path (λ dir.
    if is_some (find_named nodes dir (name_of path)) then refused nodes Exists else
    done (with_node nodes made (Some (new_node creds kind dir path mode bytes))) Done)

-- bytes put into a regular file, which grows where they end behind it
abbrev pub write : Nodes → Creds → Path → ℕ → List ℕ → Applied
write nodes creds path at bytes =
    at_file nodes creds path (λ n x.
    if is_directory x.kind then refused nodes IsDir else
    (if is_link x.kind then refused nodes IsLink else
    (if lacks creds ToWrite x then refused nodes Denied else
    (if nat_lt largest_size (at + length bytes) then refused nodes TooLarge else
    done (with_node nodes n (Some (record x { bytes = put_at at bytes x.bytes }))) (Count (length bytes))))))

-- at most so many bytes of a regular file from a place on
abbrev pub read : Nodes → Creds → Path → ℕ → ℕ → Applied
read nodes creds path at len =
    at_file nodes creds path (λ n x.
    if is_directory x.kind then refused nodes IsDir else
    (if is_link x.kind then refused nodes IsLink else
    (if lacks creds ToRead x then refused nodes Denied else
    done nodes (Bytes (take len (drop at x.bytes))))))

-- a regular file with another size
abbrev pub truncate : Nodes → Creds → Path → ℕ → Applied
truncate nodes creds path size =
    at_file nodes creds path (λ n x.
    if is_directory x.kind then refused nodes IsDir else
    (if is_link x.kind then refused nodes IsLink else
    (if lacks creds ToWrite x then refused nodes Denied else
    (if nat_lt largest_size size then refused nodes TooLarge else
    done (with_node nodes n (Some (record x { bytes = resized size x.bytes }))) Done))))

-- the text of a symbolic link
abbrev pub readlink : Nodes → Creds → Path → Applied
readlink nodes creds path =
    at_file nodes creds path (λ n x.
    if not (is_link x.kind) then refused nodes NotLink else
    (if lacks creds ToRead x then refused nodes Denied else
    done nodes (Bytes x.bytes)))

-- a regular file is guarded from now on, or no longer
abbrev pub guard : Nodes → Creds → Path → Bool → Applied
guard nodes creds path on =
    at_file nodes creds path (λ n x.
    if is_directory x.kind then refused nodes IsDir else
    (if is_link x.kind then refused nodes IsLink else
    (if lacks creds ToWrite x then refused nodes Denied else
    done (with_node nodes n (Some (record x { guard = on }))) Done)))

-- a regular file or a link is gone
abbrev pub unlink : Nodes → Creds → Path → Applied
unlink nodes creds path =
    if is_root path then refused nodes IsDir else
    in_directory nodes creds (dir_of path ∷ []) path (λ dir. listed_in nodes dir path (λ n x.
    if is_directory x.kind then refused nodes IsDir else
    done (with_node nodes n None) Done))

-- an empty directory is gone
abbrev pub rmdir : Nodes → Creds → Path → Applied
rmdir nodes creds path =
    if is_root path then refused nodes Denied else
    in_directory nodes creds (dir_of path ∷ []) path (λ dir. listed_in nodes dir path (λ n x.
    if not (is_directory x.kind) then refused nodes NotDir else
    (if nat_lt 0 (count_in nodes n) then refused nodes NotEmpty else
    done (with_node nodes n None) Done)))

-- another directory and another name; both directories are entered for writing, on both walks
abbrev pub rename : Nodes → Creds → Path → Path → Applied
rename nodes creds from to =
    let writes = dir_of from ∷ dir_of to ∷ [] in
    if is_root from then refused nodes Denied else
    (if is_root to then refused nodes Exists else
    (if is_above from to then refused nodes IntoItself else
    in_directory nodes creds writes from (λ dir. in_directory nodes creds writes to (λ new_dir. listed_in nodes dir from (λ n x.
    if is_some (find_named nodes new_dir (name_of to)) then refused nodes Exists else
    done (with_node nodes n (Some (record x { parent = new_dir; name = name_of to }))) Done)))))

-- how many entries there are, and at most 64 of them from a place on
abbrev pub list : Nodes → Creds → Path → ℕ → Applied
list nodes creds path from =
    at_file nodes creds path (λ n x.
    if not (is_directory x.kind) then refused nodes NotDir else
    (if lacks creds ToRead x then refused nodes Denied else
    done nodes (Names (count_in nodes n) (take 64 (drop from (names_in nodes n))))))

-- a directory's size is its number of entries
abbrev pub size_of : Nodes → ℕ → Node → ℕ
size_of nodes n x = if is_directory x.kind then count_in nodes n else length x.bytes

-- what a file is
abbrev pub stat : Nodes → Creds → Path → Applied
stat nodes creds path =
    at_file nodes creds path (λ n x.
    if lacks creds ToRead x then refused nodes Denied else
    done nodes (IsStat x.kind x.mode x.uid x.gid (size_of nodes n x)))

-- another mode, by the owner or uid 0
abbrev pub chmod : Nodes → Creds → Path → Mode → Applied
chmod nodes creds path mode =
    if is_root path then refused nodes Denied else
    in_directory nodes creds [] path (λ dir. listed_in nodes dir path (λ n x.
    if not (creds.uid == x.uid || creds.uid == 0) then refused nodes Denied else
    done (with_node nodes n (Some (record x { mode = mode }))) Done))

-- a link gives everybody all rights; who may read what it names is asked where that is
abbrev pub link_mode : Mode
link_mode = record { 0 = 511 }

-- what a call does and is replied, where room is there; a file that is made gets the number `made`
abbrev pub applied : Nodes → Creds → Call → ℕ → Applied
applied nodes creds (Mkdir path mode) made = make nodes creds Directory path mode [] made
applied nodes creds (Create path mode) made = make nodes creds Regular path mode [] made
applied nodes creds (Write path at bytes) made = write nodes creds path at bytes
applied nodes creds (Read path at len) made = read nodes creds path at len
applied nodes creds (Truncate path size) made = truncate nodes creds path size
applied nodes creds (Unlink path) made = unlink nodes creds path
applied nodes creds (Rmdir path) made = rmdir nodes creds path
applied nodes creds (Rename from to) made = rename nodes creds from to
applied nodes creds (ListNames path from) made = list nodes creds path from
applied nodes creds (Stat path) made = stat nodes creds path
applied nodes creds (Chmod path mode) made = chmod nodes creds path mode
applied nodes creds (Symlink path text) made = make nodes creds Link path link_mode text made
applied nodes creds (Readlink path) made = readlink nodes creds path
applied nodes creds (Guard path on) made = guard nodes creds path on

-- ---- want of room

-- the call may want pages
abbrev pub wants_pages : Call → Bool
wants_pages (Mkdir path mode) = true
wants_pages (Create path mode) = true
wants_pages (Write path at bytes) = true
wants_pages (Truncate path size) = true
wants_pages (Rename from to) = true
wants_pages (Symlink path text) = true
wants_pages _ = false

-- the call makes a file
abbrev pub makes_file : Call → Bool
makes_file (Mkdir path mode) = true
makes_file (Create path mode) = true
makes_file (Symlink path text) = true
makes_file _ = false

-- the reply is want of room for this call: more is wanted than is free
abbrev pub LacksRoom : Call → Reply → Type 0
LacksRoom call (NoSpace wanted free) = IsTrue (wants_pages call) × (free < wanted)
LacksRoom call (NoInodes wanted free) = IsTrue (makes_file call) × (free < wanted)
LacksRoom call _ = ⊥

-- the reply is that the call was done
abbrev pub is_done : Reply → Bool
is_done (Replied answer) = true
is_done _ = false

-- A call may be given this reply and leave these nodes: those of `applied`; or, where no check refuses it, want of room, which
-- comes last and changes nothing.
abbrev pub Apply : Nodes → Creds → Call → ℕ → Reply → Nodes → Type 0
Apply nodes creds call made reply nodes' =
    let a = applied nodes creds call made in
    ((reply ≡ a.reply) × (nodes' ≡ a.nodes)) ⊎ (LacksRoom call reply × IsTrue (is_done a.reply) × (nodes' ≡ nodes))
