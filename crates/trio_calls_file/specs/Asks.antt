-- The calls of the desk that one call of a file makes, and how it ends.
use Rattle.std.specs.Prelude.{◌≡◌, ◌≤◌, ℕ, ◌+◌, ◌==◌, List, [], ◌++◌, map, length, max, Option, None, Some, Result, Ok, Err, if◌then◌else◌}
use Rattle.trio_rights.specs.declared.rights.Creds.{Creds}
use Rattle.trio_layout.specs.Body.{block_count}
use Rattle.trio_nodes.specs.declared.node.Node.{Node}
use Rattle.trio_nodes.specs.declared.call.Call.{Call}
use Rattle.trio_nodes.specs.declared.call.Call.TheVariants.{Write, Read, Truncate, Stat, Readlink, Guard}
use Rattle.trio_nodes.specs.declared.call.Reply as reply
use Rattle.trio_nodes.specs.declared.call.Reply.TheVariants.{Ok as IsReplied}
use Rattle.trio_nodes.specs.Nodes.{Nodes, node_at}
use Rattle.trio_nodes.specs.Walk.{walk}
use Rattle.trio_nodes.specs.Apply.{applied, is_done}
use Rattle.trio_desk.specs.Call.{Ask, DeskSeen, Told}
use Rattle.trio_session.specs.Layout.{growth, size_in}
use Rattle.trio_session.specs.Seen.{SessionSeen, body_in, put, set_guard}
use Rattle.trio_walk.specs.Needs.{asked, file_needs, path_of}
use Rattle.trio_walk.specs.Walks.{served_by, shows_root}
use Rattle.trio_walk.specs.Asks.{AskedBy, Called, Tried, grant_ask, noted}
use Rattle.trio_walk.specs.declared.outcome.Outcome.{Outcome}
use Rattle.trio_walk.specs.declared.outcome.Outcome.TheVariants.{Replied}
use Rattle.trio_session.specs.Asked.{IsAlike, allot_asks}
use Rattle.trio_session.specs.Deeds.{sized}

-- ---- the condition

-- it is a call of a file, of at most 4096 bytes
abbrev pub IsFileCall : Call → Type 0
IsFileCall (Write path at bytes) = length bytes ≤ 4096
IsFileCall (Read path at len) = len ≤ 4096
IsFileCall (Truncate path size) = Unit {0}
IsFileCall (Stat path) = Unit {0}
IsFileCall (Readlink path) = Unit {0}
IsFileCall (Guard path on) = Unit {0}
IsFileCall call = ⊥

-- ---- what is asked

-- how many bytes the file has after the call; no bytes that are written change nothing
abbrev pub new_length : Call → ℕ → ℕ
new_length (Write path at bytes) old = if length bytes == 0 then old else max old (at + length bytes)
new_length (Truncate path size) old = size
new_length call old = old

-- by how many pages the file of a node grows
abbrev pub growth_of : Call → Option Node → ℕ
growth_of call None = 0
growth_of call (Some x) = growth (block_count (length x.bytes)) (block_count (new_length call (length x.bytes)))

-- and that to which the walk has come
abbrev pub walked_growth : Nodes → Call → Result ℕ reply.Reply → ℕ
walked_growth nodes call (Ok n) = growth_of call (node_at nodes n)
walked_growth nodes call (Err refusal) = 0

-- the pages that a call wants: the growth of its file; none where a check has refused
abbrev pub wanted_pages : Nodes → Creds → Call → ℕ
wanted_pages nodes creds call =
    if is_done (applied nodes creds call 0).reply then walked_growth nodes call (walk nodes creds [] (path_of call)) else 0

-- What one try of a call asks, in nodes that the session shows: the grants that it needs and no lease serves, and then one allotment
-- of its growth.
abbrev pub asks_of : Nodes → Creds → SessionSeen → Call → List Ask
asks_of nodes creds s call =
    map grant_ask (asked (served_by s) (file_needs nodes creds (shows_root s) call)) ++ allot_asks (wanted_pages nodes creds call) 0

-- ---- what is left

-- What a call that is done edits, of the file to which it comes, as the layout has it: bytes that are written past the end let the file
-- grow before; no bytes edit nothing.
abbrev pub edited : Call → ℕ → SessionSeen → SessionSeen
edited (Write path at bytes) ino s = if length bytes == 0 then s else put ino at bytes (sized ino (new_length (Write path at bytes) (size_in (body_in s ino))) s)
edited (Truncate path size) ino s = sized ino size s
edited (Guard path on) ino s = set_guard ino on s
edited call ino s = s

-- What a try leaves of a session that took all that was given: where the call is done the file has its edit, and else nothing was
-- written; a call that is replied is the last one done, with its reply.
abbrev pub Leaves : Call → ℕ → Outcome → SessionSeen → SessionSeen → Type 0
Leaves call ino (Replied (IsReplied answer)) s s' = IsAlike (noted call (IsReplied answer) 0 (edited call ino s)) s'
Leaves call ino (Replied refusal) s s' = IsAlike (noted call refusal 0 s) s'
Leaves call ino end s s' = IsAlike s s'

-- a call that is done comes to this file
abbrev pub ComesTo : Outcome → ℕ → Nodes → Creds → Call → Type 0
ComesTo (Replied (IsReplied answer)) ino nodes creds call = walk nodes creds [] (path_of call) ≡ Ok ino
ComesTo end ino nodes creds call = Unit {0}

-- what is true of a try in the nodes that the session shows: it comes to this file, and has asked for just what is to be asked
pub record TriedIn (creds : Creds) (s : SessionSeen) (call : Call) (end : Outcome) (ino : ℕ) (asks' : List Ask) (nodes : Nodes) : Type 0 where
  pub comes : ComesTo end ino nodes creds call
  pub asks : AskedBy end asks' (asks_of nodes creds s call)

-- One try of a call, from a desk and a session to these.
abbrev pub FileTried : {D : Type 0} (called : D → Ask → Told → D → Type 0) (seen : D → DeskSeen) → Call → D → SessionSeen → Outcome → D → SessionSeen → Type 0
FileTried called seen call d s end d' s' =
    (file : ℕ) × Tried called seen d s (Leaves call file end) (λ all asks now. TriedIn (seen d').creds s call end file asks now) end d' s'

-- A call of a file.
abbrev pub FileCalled : {D : Type 0} (called : D → Ask → Told → D → Type 0) (seen : D → DeskSeen) → D → SessionSeen → Call → Outcome → D → SessionSeen → Type 0
FileCalled called seen d s call end d' s' = Called called (FileTried called seen call) d s end d' s'
