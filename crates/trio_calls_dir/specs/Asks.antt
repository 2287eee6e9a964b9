-- The calls of the desk that one call on a directory's entries makes, and how it ends: Mkdir, Create, Symlink, Unlink, Rmdir, Rename and
-- List.
use Rattle.std.specs.Prelude.{◌≡◌, ◌≤◌, ℕ, ◌+◌, ◌==◌, IsTrue, List, [], ◌∷◌, ◌++◌, length, map, Some, Ok, if◌then◌else◌}
use Rattle.std.specs.Option.{option_map_or}
use Rattle.trio_rights.specs.declared.kind.Kind.{Kind}
use Rattle.trio_rights.specs.declared.kind.Kind.TheVariants.{Directory, Regular}
use Rattle.trio_rights.specs.declared.rights.Creds.{Creds}
use Rattle.trio_rights.specs.declared.rights.Mode.{Mode}
use Rattle.trio_nodes.specs.declared.call.Call.{Call}
use Rattle.trio_nodes.specs.declared.call.Call.TheVariants.{Mkdir, Create, Symlink, Unlink, Rmdir, Rename, List as ListNames}
use Rattle.trio_nodes.specs.declared.call.Reply.TheVariants.{Ok as IsReplied}
use Rattle.trio_nodes.specs.Nodes.{Nodes, find_named}
use Rattle.trio_nodes.specs.Walk.{Path, dir_of, name_of, walk, walk_into}
use Rattle.trio_nodes.specs.Apply.{applied, is_done, link_mode}
use Rattle.trio_desk.specs.Call.{Ask, DeskSeen, Told}
use Rattle.trio_session.specs.Seen.{SessionSeen, clear, fill, retitle}
use Rattle.trio_walk.specs.Needs.{asked, dir_needs}
use Rattle.trio_walk.specs.Walks.{served_by, shows_root}
use Rattle.trio_walk.specs.Asks.{AskedBy, Called, Tried, grant_ask, noted}
use Rattle.trio_walk.specs.declared.outcome.Outcome.{Outcome}
use Rattle.trio_walk.specs.declared.outcome.Outcome.TheVariants.{Replied}
use Rattle.trio_session.specs.Asked.{IsAlike, allot_asks}
use Rattle.trio_session.specs.Deeds.{slot_growth, with_slot, link_made, new_body, new_number, moved_shown, as_lent}

-- ---- the condition

-- it makes a file, of a mode of nine bits, or a link with a text of 1 to 4096 bytes; or it removes or renames a file, or lists names
abbrev pub IsEntryCall : Call → Type 0
IsEntryCall (Mkdir path mode) = mode.0 ≤ 511
IsEntryCall (Create path mode) = mode.0 ≤ 511
IsEntryCall (Symlink path text) = (1 ≤ length text) × (length text ≤ 4096)
IsEntryCall (Unlink path) = Unit {0}
IsEntryCall (Rmdir path) = Unit {0}
IsEntryCall (Rename from to) = Unit {0}
IsEntryCall (ListNames path from) = Unit {0}
IsEntryCall call = ⊥

-- ---- what is wanted

-- where a call comes to: its directory, that to which a rename moves, and the file that is moved or listed
pub record Target : Type 0 where
  pub dir : ℕ
  pub new_dir : ℕ
  pub ino : ℕ

-- the pages that a call wants which no check refuses, by the session with all that it was lent; a link has an index page and a block
abbrev pub pages_for : Call → Target → SessionSeen → ℕ
pages_for (Mkdir path mode) t s = slot_growth s t.dir
pages_for (Create path mode) t s = slot_growth s t.dir
pages_for (Symlink path text) t s = slot_growth s t.dir + 2
pages_for (Rename from to) t s = if t.dir == t.new_dir then 0 else slot_growth s t.new_dir
pages_for call t s = 0

-- and the inode numbers
abbrev pub numbers_for : Call → ℕ
numbers_for (Mkdir path mode) = 1
numbers_for (Create path mode) = 1
numbers_for (Symlink path text) = 1
numbers_for call = 0

-- the allotment that it asks for; none where a check has refused
abbrev pub wants_of : Nodes → Creds → Call → Target → SessionSeen → List Ask
wants_of nodes creds call t s =
    if is_done (applied nodes creds call 0).reply then allot_asks (pages_for call t s) (numbers_for call) else []

-- What one try of a call asks, in nodes that the session shows: the grants that it needs and no lease serves, and then one allotment.
-- `all` is the session with all that it was given.
abbrev pub asks_of : Nodes → Creds → SessionSeen → Call → Target → SessionSeen → List Ask
asks_of nodes creds s call t all =
    map grant_ask (asked (served_by s) (dir_needs nodes creds (shows_root s) call)) ++ wants_of nodes creds call t (as_lent s all)

-- ---- what is left

-- the entry of a new file has the first empty slot
abbrev pub filled_new : Creds → Kind → Path → Mode → Target → SessionSeen → SessionSeen
filled_new creds kind path mode t s = fill t.dir (name_of path) (new_number s) kind (new_body creds mode) (with_slot t.dir s)

-- so has that of a new link, which has its text
abbrev pub linked_new : Creds → Path → List ℕ → Target → SessionSeen → SessionSeen
linked_new creds path text t s = link_made t.dir (name_of path) (new_number s) (new_body creds link_mode) text (with_slot t.dir s)

-- a file that moves clears its slot, and fills the first empty one of the other directory with the kind and the body that it takes with it
abbrev pub moved : Path → Path → Target → SessionSeen → SessionSeen
moved from to t s =
    let ready = with_slot t.new_dir s in
    option_map_or (λ (m : Kind × List ℕ). fill t.new_dir (name_of to) t.ino m.0 m.1 (clear t.dir (name_of from) ready)) (moved_shown ready t.ino) ready

-- What a call that is done edits, as the layout has it.
abbrev pub edited : Creds → Call → Target → SessionSeen → SessionSeen
edited creds (Mkdir path mode) t s = filled_new creds Directory path mode t s
edited creds (Create path mode) t s = filled_new creds Regular path mode t s
edited creds (Symlink path text) t s = linked_new creds path text t s
edited creds (Unlink path) t s = clear t.dir (name_of path) s
edited creds (Rmdir path) t s = clear t.dir (name_of path) s
edited creds (Rename from to) t s = if t.dir == t.new_dir then retitle t.dir (name_of from) (name_of to) s else moved from to t s
edited creds call t s = s

-- the number of the file that it made
abbrev pub made_by : Call → SessionSeen → ℕ
made_by (Mkdir path mode) s = new_number s
made_by (Create path mode) s = new_number s
made_by (Symlink path text) s = new_number s
made_by call s = 0

-- What a try leaves of a session that took all that was given: where the call is done its directories have their edits, and else nothing
-- was written; a call that is replied is the last one done, with its reply.
abbrev pub Leaves : Creds → Call → Target → Outcome → SessionSeen → SessionSeen → Type 0
Leaves creds call t (Replied (IsReplied answer)) s s' = IsAlike (noted call (IsReplied answer) (made_by call s) (edited creds call t s)) s'
Leaves creds call t (Replied refusal) s s' = IsAlike (noted call refusal 0 s) s'
Leaves creds call t end s s' = IsAlike s s'

-- a call that no check refuses comes to these directories, and a rename to this file
abbrev pub ComesTo : Target → Nodes → Creds → Call → Type 0
ComesTo t nodes creds (Mkdir path mode) = walk_into nodes creds (dir_of path ∷ []) (dir_of path) ≡ Ok t.dir
ComesTo t nodes creds (Create path mode) = walk_into nodes creds (dir_of path ∷ []) (dir_of path) ≡ Ok t.dir
ComesTo t nodes creds (Symlink path text) = walk_into nodes creds (dir_of path ∷ []) (dir_of path) ≡ Ok t.dir
ComesTo t nodes creds (Unlink path) = walk_into nodes creds (dir_of path ∷ []) (dir_of path) ≡ Ok t.dir
ComesTo t nodes creds (Rmdir path) = walk_into nodes creds (dir_of path ∷ []) (dir_of path) ≡ Ok t.dir
ComesTo t nodes creds (Rename from to) =
    (walk_into nodes creds (dir_of from ∷ dir_of to ∷ []) (dir_of from) ≡ Ok t.dir) × (walk_into nodes creds (dir_of from ∷ dir_of to ∷ []) (dir_of to) ≡ Ok t.new_dir)
    × (find_named nodes t.dir (name_of from) ≡ Some t.ino)
ComesTo t nodes creds (ListNames path from) = walk nodes creds [] path ≡ Ok t.ino
ComesTo t nodes creds call = Unit {0}

-- so a try has that is replied: of one that is broken off it isn't said
abbrev pub ComesBy : Outcome → Target → Nodes → Creds → Call → Type 0
ComesBy (Replied answer) t nodes creds call = IsTrue (is_done (applied nodes creds call 0).reply) → ComesTo t nodes creds call
ComesBy end t nodes creds call = Unit {0}

-- What is true of a try in the nodes that the session shows, by the session with all that it was given: where no check refuses the call and
-- it is replied it has come to these directories, and it has asked for just what is to be asked.
pub record TriedIn (creds : Creds) (s : SessionSeen) (call : Call) (end : Outcome) (t : Target) (all : SessionSeen) (asks' : List Ask) (nodes : Nodes) : Type 0 where
  pub comes : ComesBy end t nodes creds call
  pub asks : AskedBy end asks' (asks_of nodes creds s call t all)

-- One try of a call, from a desk and a session to these.
abbrev pub DirTried : {D : Type 0} (called : D → Ask → Told → D → Type 0) (seen : D → DeskSeen) → Call → D → SessionSeen → Outcome → D → SessionSeen → Type 0
DirTried called seen call d s end d' s' =
    (t : Target) × Tried called seen d s (Leaves s.creds call t end) (TriedIn (seen d').creds s call end t) end d' s'

-- A call on a directory's entries.
abbrev pub EntryCalled : {D : Type 0} (called : D → Ask → Told → D → Type 0) (seen : D → DeskSeen) → D → SessionSeen → Call → Outcome → D → SessionSeen → Type 0
EntryCalled called seen d s call end d' s' = Called called (DirTried called seen call) d s end d' s'
