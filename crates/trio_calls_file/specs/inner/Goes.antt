-- Words of a try in progress: from where a walk has met a file, to how the try ends.
use Rattle.std.specs.Prelude.{◌≡◌, ◌≢◌, ◌<◌, ℕ, ◌+◌, nat_le, Bool, true, not, is_some, List, [], ◌∷◌, ◌++◌, map, length, take, drop, Option, None, Some, Result, Ok, Err, if◌then◌else◌}
use Rattle.trio_rights.specs.ByKind.{is_directory, is_link}
use Rattle.trio_rights.specs.declared.kind.Kind.{Kind}
use Rattle.trio_rights.specs.declared.kind.Kind.TheVariants.{Regular}
use Rattle.trio_rights.specs.declared.rights.Creds.{Creds}
use Rattle.trio_rights.specs.declared.rights.Need.{Need}
use Rattle.trio_rights.specs.declared.rights.Need.TheVariants.{Read as ToRead, Write as ToWrite}
use Rattle.trio_nodes.specs.declared.grant.GrantKind.{GrantKind}
use Rattle.trio_nodes.specs.declared.grant.GrantKind.TheVariants.{Read, Write}
use Rattle.trio_nodes.specs.declared.call.Answer.TheVariants.{Bytes, Names}
use Rattle.trio_nodes.specs.declared.call.Call.{Call}
use Rattle.trio_nodes.specs.declared.call.Call.TheVariants.{Write as WriteCall, Read as ReadCall, Truncate, Stat, Readlink, Guard}
use Rattle.trio_nodes.specs.declared.call.Reply.{Reply}
use Rattle.trio_nodes.specs.declared.call.Reply.TheVariants.{Ok as IsReplied, Denied, IsDir, IsLink, NotLink, TooLarge}
use Rattle.trio_nodes.specs.Nodes.{Nodes, node_at}
use Rattle.trio_nodes.specs.Walk.{Path, walk}
use Rattle.trio_nodes.specs.Apply.{largest_size}
use Rattle.trio_desk.specs.Call.{Ask, DeskSeen, Told}
use Rattle.trio_desk.specs.Calls as desk_calls
use Rattle.trio_desk.specs.Agrees.{HasRights}
use Rattle.trio_desk.specs.Contents.{Rights}
use Rattle.trio_laws.specs.session.FileCalls.{refusal}
use Rattle.trio_session.specs.Seen.{SessionSeen}
use Rattle.trio_edit_laws.specs.Calls.{MayCall}
use Rattle.trio_walk.specs.declared.met.Met.{Met}
use Rattle.trio_walk.specs.declared.outcome.Outcome.{Outcome}
use Rattle.trio_walk.specs.declared.outcome.Outcome.TheVariants.{Replied, Busy, NoMemory}
use Rattle.trio_walk.specs.Needs.{Needed, asked, path_of}
use Rattle.trio_walk.specs.Asks.{AskedBy, TryEnds, grant_ask, noted}
use Rattle.trio_walk.specs.Tries.{LeavesUnnoted, Passes}
use Rattle.trio_walk.specs.Walks.{InAllShown, IsOwnGrant, gives_met, served_by}
use Rattle.trio_walk.specs.declared.outcome.Stop.{Stop}
use Rattle.trio_walk.specs.declared.outcome.Stop.TheVariants.{Busy as IsBusy, NoMemory as LacksMemory}
use Rattle.trio_calls_file.specs.Asks.{ComesTo, asks_of, edited, wanted_pages}
use Rattle.trio_session.specs.Asked.{allot_asks, took}
use Rattle.trio_session.specs.Deeds.{bytes_had}
use Rattle.trio_deeds.specs.Reads.{allows, stat_had}

-- ---- checks

-- what a call needs of its file
abbrev pub need_for : Call → Need
need_for (WriteCall path at bytes) = ToWrite
need_for (Truncate path size) = ToWrite
need_for (Guard path on) = ToWrite
need_for call = ToRead

-- the kind of grant by which it takes it
abbrev pub grant_for : Call → GrantKind
grant_for (WriteCall path at bytes) = Write
grant_for (Truncate path size) = Write
grant_for (Guard path on) = Write
grant_for call = Read

-- why bytes aren't read or written at a file of this kind, whose rights give what is needed or don't, and which would end within the
-- largest size or not
abbrev pub bytes_refusal : Kind → Bool → Bool → Option Reply
bytes_refusal kind gives fits =
    if is_directory kind then Some IsDir
    else (if is_link kind then Some IsLink
    else (if not gives then Some Denied
    else (if not fits then Some TooLarge else None)))

-- why the text of a link isn't read at such a file
abbrev pub text_refusal : Kind → Bool → Option Reply
text_refusal kind gives = if not (is_link kind) then Some NotLink else (if not gives then Some Denied else None)

-- why a call is refused at such a file
abbrev pub refusal_at : Kind → Bool → Call → Option Reply
refusal_at kind gives (WriteCall path at bytes) = bytes_refusal kind gives (nat_le (at + length bytes) largest_size)
refusal_at kind gives (ReadCall path at len) = bytes_refusal kind gives true
refusal_at kind gives (Truncate path size) = bytes_refusal kind gives (nat_le size largest_size)
refusal_at kind gives (Stat path) = if not gives then Some Denied else None
refusal_at kind gives (Readlink path) = text_refusal kind gives
refusal_at kind gives (Guard path on) = bytes_refusal kind gives true
refusal_at kind gives call = None

-- why a call is refused at a file that was met, by what is known of it
abbrev pub checked : Creds → Met → Call → Option Reply
checked creds m call = refusal_at m.kind (gives_met creds m (need_for call)) call

-- ---- what is asked

-- the grant of a call on the file that was met, unless a check has refused
abbrev pub met_needs : Creds → Met → Call → List Needed
met_needs creds m call = if is_some (checked creds m call) then [] else record { ino = m.ino; kind = grant_for call } ∷ []

-- what is asked from the file on
abbrev pub asks_at : Creds → SessionSeen → Met → Call → Nodes → List Ask
asks_at creds s m call now = map grant_ask (asked (served_by s) (met_needs creds m call)) ++ allot_asks (wanted_pages now creds call) 0

-- the pages alone
abbrev pub wants_pages_for : Creds → Call → Nodes → List Ask
wants_pages_for creds call now = allot_asks (wanted_pages now creds call) 0

-- ---- what is known of a file

-- the walk has come to this file
abbrev pub ComesHere : DeskSeen → SessionSeen → Path → ℕ → Type 0
ComesHere desk s path ino = InAllShown desk s (λ now. walk now desk.creds [] path ≡ Ok ino)

-- no check refuses the call: its walk comes to a file whose kind and rights don't refuse it
pub record MayBeDone (creds' : Creds) (call' : Call) (ino' : ℕ) (now : Nodes) : Type 0 where
  pub walks : walk now creds' [] (path_of call') ≡ Ok ino'
  pub rights : Rights
  pub there : HasRights rights (node_at now ino')
  pub checks : refusal creds' rights call' ≡ None

-- so it is in all nodes that the session shows
abbrev pub Unrefused : DeskSeen → SessionSeen → Call → ℕ → Type 0
Unrefused desk s call ino = InAllShown desk s (MayBeDone desk.creds call ino)

-- ---- what is replied of a file that is had

-- the bytes that were read
abbrev pub bytes_reply : SessionSeen → ℕ → ℕ → ℕ → Reply
bytes_reply s ino at len = IsReplied (Bytes (take len (drop at (bytes_had s ino))))

-- the text of a link: all its bytes
abbrev pub text_reply : SessionSeen → ℕ → Reply
text_reply s ino = IsReplied (Bytes (bytes_had s ino))

-- what a file is, by its body, where that gives reading
abbrev pub stat_reply : Creds → SessionSeen → ℕ → Kind → Reply
stat_reply creds s ino kind = if allows s ino kind creds ToRead then IsReplied (stat_had s ino kind) else Denied

-- ---- the end

-- how a try ends, by what it is replied or why it isn't
abbrev pub try_ends : Result Reply Stop → Outcome
try_ends (Ok reply) = Replied reply
try_ends (Err (IsBusy holder)) = Busy holder
try_ends (Err LacksMemory) = NoMemory

-- What a try leaves that isn't noted yet: an edit where the call is done, and else nothing was written.
abbrev pub LeavesHere : Call → ℕ → SessionSeen → Outcome → SessionSeen → Type 0
LeavesHere call ino s end s' = LeavesUnnoted (edited call ino) s end s'

-- the answer is bytes that were read
abbrev pub IsBytes : Reply → Type 0
IsBytes (IsReplied (Bytes bytes)) = Unit {0}
IsBytes reply = ⊥

-- the call reads bytes
abbrev pub IsRead : Call → Type 0
IsRead (ReadCall path at len) = Unit {0}
IsRead (Readlink path) = Unit {0}
IsRead call = ⊥

-- no names are answered
abbrev pub IsPlain : Reply → Type 0
IsPlain (IsReplied (Names count names)) = ⊥
IsPlain reply = Unit {0}

-- What holds after a try that isn't noted yet: with the call and its reply as the last one done the session may go on, and there is room
-- for it; so it may without, where bytes were read or there is no reply.
abbrev pub AfterTry : DeskSeen → Call → Outcome → SessionSeen → Type 0
AfterTry desk call (Replied reply) s' =
    MayCall desk (noted call reply 0 s') × (length s'.calls < s'.room.calls) × IsPlain reply × (IsBytes reply → MayCall desk s' × IsRead call)
AfterTry desk call end s' = MayCall desk s'

-- From a desk and a session to these a try of a call comes to its end, but for its note. These asks are wanted, by the nodes that the
-- session shows.
pub record Goes {D : Type 0} (called : D → Ask → Told → D → Type 0) (seen : D → DeskSeen) (d : D) (s : SessionSeen) (call : Call) (ino : ℕ) (wants : Nodes → List Ask) (end : Outcome) (d' : D) (s' : SessionSeen) : Type 0 where
  pub given : List desk_calls.Call
  pub last : List desk_calls.Call
  pub passes : Passes called seen d s given last d' s'
  pub ends : TryEnds end last
  pub leaves : LeavesHere call ino (took s (map (λ c. c.told) given)) end s'
  pub asks : InAllShown (seen d') s' (λ now. AskedBy end (map (λ c. c.ask) (given ++ last)) (wants now))
  pub after : AfterTry (seen d') call end s'

-- a grant of the library's own that keeps a file busy is one of the session's that excludes this call's; what isn't read is a regular file
abbrev pub CallBusyAt : DeskSeen → SessionSeen → Met → Call → Outcome → Type 0
CallBusyAt desk s m call (Busy holder) = holder.lib ≡ s.lib → IsOwnGrant desk s m.ino (grant_for call) × (grant_for call ≢ Read → m.kind ≡ Regular)
CallBusyAt desk s m call end = Unit {0}

-- the whole try, but for its note: it comes to this file, and what is to be asked of the desk is asked
pub record RepliesTo {D : Type 0} (called : D → Ask → Told → D → Type 0) (seen : D → DeskSeen) (d : D) (s : SessionSeen) (call : Call) (end : Outcome) (d' : D) (s' : SessionSeen) : Type 0 where
  pub file : ℕ
  pub goes : Goes called seen d s call file (λ now. asks_of now (seen d').creds s call) end d' s'
  pub comes : InAllShown (seen d') s' (λ now. ComesTo end file now (seen d').creds call)
