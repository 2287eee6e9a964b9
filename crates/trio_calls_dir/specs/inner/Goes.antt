-- Words of a try in progress: from where it begins, or has entered its directories, to how it ends.
use Rattle.std.specs.Prelude.{◌≡◌, ◌<◌, ℕ, Bool, true, false, List, [], ◌++◌, map, length, Result, Ok, Err}
use Rattle.trio_rights.specs.declared.kind.Kind.{Kind}
use Rattle.trio_rights.specs.declared.kind.Kind.TheVariants.{Regular, Directory}
use Rattle.trio_rights.specs.declared.rights.Creds.{Creds}
use Rattle.trio_rights.specs.declared.rights.Mode.{Mode}
use Rattle.trio_nodes.specs.declared.call.Answer.TheVariants.{Done as IsDone, Names}
use Rattle.trio_nodes.specs.declared.call.Call.{Call}
use Rattle.trio_nodes.specs.declared.call.Call.TheVariants.{Mkdir, Create, Symlink, Unlink, Rmdir}
use Rattle.trio_nodes.specs.declared.call.Reply.{Reply}
use Rattle.trio_nodes.specs.declared.call.Reply.TheVariants.{Ok as IsReplied, NotFound, Exists, NotDir, IsDir, NotEmpty, Denied, IntoItself}
use Rattle.trio_nodes.specs.Nodes.{Nodes}
use Rattle.trio_nodes.specs.Walk.{Path, name_of}
use Rattle.trio_nodes.specs.Apply.{link_mode}
use Rattle.trio_desk.specs.Call.{Ask, DeskSeen, Told}
use Rattle.trio_desk.specs.Calls as desk_calls
use Rattle.trio_desk.specs.Edits.{DoesCall}
use Rattle.trio_layout.specs.declared.body.Body.{Body}
use Rattle.trio_session.specs.Seen.{SessionSeen, fill}
use Rattle.trio_edit_laws.specs.Calls.{MayCall}
use Rattle.trio_walk.specs.Needs.{Needed, asked}
use Rattle.trio_walk.specs.Walks.{InAllShown, served_by}
use Rattle.trio_walk.specs.declared.walks.WalkEnd.{WalkEnd}
use Rattle.trio_walk.specs.declared.walks.WalkEnd.TheVariants.{At, Reply as IsReply, Busy as IsBusyWalk, NoMemory as NoWalkMemory}
use Rattle.trio_walk.specs.Asks.{AskedBy, TryEnds, grant_ask, noted}
use Rattle.trio_walk.specs.Tries.{LeavesUnnoted, Passes}
use Rattle.trio_walk.specs.declared.outcome.Outcome.{Outcome}
use Rattle.trio_walk.specs.declared.outcome.Outcome.TheVariants.{Busy, NoMemory, Replied}
use Rattle.trio_calls_dir.specs.declared.replies.Replied as replied
use Rattle.trio_walk.specs.declared.outcome.Stop.{Stop}
use Rattle.trio_walk.specs.declared.outcome.Stop.TheVariants.{Busy as IsBusy, NoMemory as LacksMemory}
use Rattle.trio_calls_dir.specs.Asks.{ComesBy, IsEntryCall, Target, edited, made_by, wants_of}
use Rattle.trio_session.specs.Asked.{took}
use Rattle.trio_session.specs.Deeds.{as_lent, link_made, new_body}

-- ---- the end

-- how a try ends, by what it is replied or why it isn't
abbrev pub try_ends : Result replied.Replied Stop → Outcome
try_ends (Ok r) = Replied r.reply
try_ends (Err (IsBusy holder)) = Busy holder
try_ends (Err LacksMemory) = NoMemory

-- the number of the file that it made, 0 of none
abbrev pub number_made : Result replied.Replied Stop → ℕ
number_made (Ok r) = r.made
number_made (Err stop) = 0

-- a reply of a call that made no file
abbrev pub without_file : Result Reply Stop → Result replied.Replied Stop
without_file (Ok reply) = Ok (record { reply = reply; made = 0 })
without_file (Err stop) = Err stop

-- that which such a call takes of this session, where it is done
abbrev pub IsNumber : Call → SessionSeen → Outcome → ℕ → Type 0
IsNumber call s (Replied (IsReplied answer)) made = made ≡ made_by call s
IsNumber call s end made = made ≡ 0

-- What a try leaves that isn't noted yet: its edits where the call is done, and else nothing was written.
abbrev pub LeavesHere : Creds → Call → Target → SessionSeen → Outcome → SessionSeen → Type 0
LeavesHere creds call t s end s' = LeavesUnnoted (edited creds call t) s end s'

-- the answer is a list of names
abbrev pub IsNames : Reply → Type 0
IsNames (IsReplied (Names count names)) = Unit {0}
IsNames reply = ⊥

-- the answers of calls on directories
abbrev pub IsOfDir : Reply → Type 0
IsOfDir (IsReplied IsDone) = Unit {0}
IsOfDir (IsReplied (Names count names)) = Unit {0}
IsOfDir (IsReplied answer) = ⊥
IsOfDir reply = Unit {0}

-- What holds after a try that isn't noted yet: with the call and its reply as the last one done the session may go on, and there is room
-- for it; so it may without, where names were listed or there is no reply.
abbrev pub AfterTry : DeskSeen → Call → ℕ → Outcome → SessionSeen → Type 0
AfterTry desk call made (Replied reply) s' =
    MayCall desk (noted call reply made s') × (length s'.calls < s'.room.calls) × IsOfDir reply
    × (IsNames reply → MayCall desk s' × ((creds : Creds) (t : Target) (s : SessionSeen) → edited creds call t s ≡ s))
AfterTry desk call made end s' = MayCall desk s'

-- ---- in progress

-- what is to be asked: the grants that are needed and no lease serves, and then the allotment
abbrev pub asks_from : SessionSeen → List Needed → Nodes → Creds → Call → Target → SessionSeen → List Ask
asks_from s needs now creds call t all = map grant_ask (asked (served_by s) needs) ++ wants_of now creds call t (as_lent s all)

-- From a desk and a session to these a try of a call comes to its end, but for its note. These grants are needed, by the nodes that the
-- session shows.
pub record Goes {D : Type 0} (called : D → Ask → Told → D → Type 0) (seen : D → DeskSeen) (d : D) (s : SessionSeen) (call : Call) (needs : Nodes → List Needed) (end : Outcome) (number : ℕ) (d' : D) (s' : SessionSeen) : Type 0 where
  pub target : Target
  pub given : List desk_calls.Call
  pub last : List desk_calls.Call
  pub passes : Passes called seen d s given last d' s'
  pub ends : TryEnds end last
  pub leaves : LeavesHere (seen d').creds call target (took s (map (λ c. c.told) given)) end s'
  pub numbered : IsNumber call (took s (map (λ c. c.told) given)) end number
  pub comes : InAllShown (seen d') s' (λ now. ComesBy end target now (seen d').creds call)
  pub asks :
      InAllShown (seen d') s' (λ now.
      AskedBy end (map (λ c. c.ask) (given ++ last)) (asks_from s (needs now) now (seen d').creds call target (took s (map (λ c. c.told) given))))
  pub after : AfterTry (seen d') call number end s'

-- ---- what is known

-- the refusals of checks
abbrev pub IsRefusal : Reply → Type 0
IsRefusal NotFound = Unit {0}
IsRefusal Exists = Unit {0}
IsRefusal NotDir = Unit {0}
IsRefusal IsDir = Unit {0}
IsRefusal NotEmpty = Unit {0}
IsRefusal Denied = Unit {0}
IsRefusal IntoItself = Unit {0}
IsRefusal reply = ⊥

-- a call that the tree refuses so
abbrev pub IsRefusedAs : DeskSeen → Call → Reply → Nodes → Type 0
IsRefusedAs desk call reply now = DoesCall desk (record { call = call; reply = reply; made = 0 }) now now

-- ---- what is made, and what is removed

-- what a call makes: an empty directory or regular file of a mode, or a link with a text
pub data New : Type 0 where
  NewDirectory : Mode → New
  NewFile : Mode → New
  NewLink : (text : List ℕ) → New

-- the call that makes it, by this path
abbrev pub making : New → Path → Call
making (NewDirectory mode) path = Mkdir path mode
making (NewFile mode) path = Create path mode
making (NewLink text) path = Symlink path text

-- the call makes a file by this path
pub record MakesNew (call' : Call) (path' : Path) : Type 0 where
  pub what : New
  pub is : call' ≡ making what path'
  pub fits : IsEntryCall call'

-- its path
abbrev pub new_path : Call → Path
new_path (Mkdir path mode) = path
new_path (Create path mode) = path
new_path (Symlink path text) = path
new_path call = []

-- the file's mode
abbrev pub new_mode : Call → Mode
new_mode (Mkdir path mode) = mode
new_mode (Create path mode) = mode
new_mode call = link_mode

-- its kind; of a link, which has a text only once it is made, that of the empty file that it is before
abbrev pub new_kind : Call → Kind
new_kind (Mkdir path mode) = Directory
new_kind call = Regular

-- its bytes
abbrev pub new_bytes : Call → List ℕ
new_bytes (Symlink path text) = text
new_bytes call = []

-- the body of a new file, without pages
abbrev pub body_made : Creds → Mode → Body
body_made creds mode = record { mode = mode; uid = creds.uid; gid = creds.gid; head = 0; size = 0; guard = false }

-- what is made of a directory with an empty slot: it has an entry of this number
abbrev pub put_new : Creds → Call → ℕ → ℕ → SessionSeen → SessionSeen
put_new creds (Mkdir path mode) dir n s = fill dir (name_of path) n Directory (new_body creds mode) s
put_new creds (Create path mode) dir n s = fill dir (name_of path) n Regular (new_body creds mode) s
put_new creds (Symlink path text) dir n s = link_made dir (name_of path) n (new_body creds link_mode) text s
put_new creds call dir n s = s

-- the call removes a directory by this path, or any other file
abbrev pub removing : Bool → Path → Call
removing true path = Rmdir path
removing false path = Unlink path

-- how a walk that has come to no file ends the try; want of memory for the call's note may come after a refusal
abbrev pub StopsBy : WalkEnd → Result replied.Replied Stop → SessionSeen → Type 0
StopsBy (IsReply reply) (Ok r) s' = (r ≡ record { reply = reply; made = 0 }) × (length s'.calls < s'.room.calls)
StopsBy (IsReply reply) (Err stop) s' = stop ≡ LacksMemory
StopsBy (IsBusyWalk holder) result s' = result ≡ Err (IsBusy holder)
StopsBy NoWalkMemory result s' = result ≡ Err LacksMemory
StopsBy (At n) result s' = ⊥
