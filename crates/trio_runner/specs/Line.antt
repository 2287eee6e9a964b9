-- What a line of a library comes to: what it asks of the library's desk, what it is told, and what the library has then.
use Rattle.std.specs.Prelude.{◌≡◌, ℕ, List, [], ◌∷◌, ◌++◌, MatchBool, MatchOption, Option, None, Some, if◌then◌else◌}
use Rattle.std.specs.Option.{is_some, option_map}
use Rattle.trio_rights.specs.declared.rights.LibNo.{LibNo}
use Rattle.trio_nodes.specs.declared.grant.GrantKind.{GrantKind}
use Rattle.trio_nodes.specs.declared.grant.GrantKind.TheVariants.{Read, Write, Hold}
use Rattle.trio_nodes.specs.declared.answers.GrantFault.{GrantFault}
use Rattle.trio_nodes.specs.declared.answers.GrantFault.TheVariants.{NotLive, Denied, NoParent, Busy, NoMemory as NoGrantMemory}
use Rattle.trio_nodes.specs.declared.answers.AllotFault.{AllotFault}
use Rattle.trio_nodes.specs.declared.answers.AllotFault.TheVariants.{NoPages, NoInodes, NoMemory as NoAllotMemory}
use Rattle.trio_nodes.specs.declared.answers.ReleaseAnswer.{ReleaseAnswer}
use Rattle.trio_nodes.specs.declared.answers.ReleaseAnswer.TheVariants.{Accepted, Refused}
use Rattle.trio_nodes.specs.declared.answers.ReleaseFault.{ReleaseFault}
use Rattle.trio_nodes.specs.declared.answers.ReleaseFault.TheVariants.{NotClosed, NoMemory as NoReleaseMemory}
use Rattle.trio_nodes.specs.declared.answers.ModeFault.{ModeFault}
use Rattle.trio_nodes.specs.declared.answers.ModeFault.TheVariants as unmoded
use Rattle.trio_desk.specs.Call.{Ask, Told, Grant, Allot, GiveBack, Release, SetMode, Lent, NotLent, Given, NotGiven, Done, Judged, NotJudged, ModeSet, NotModeSet}
use Rattle.trio_desk.specs.Calls.{Call}
use Rattle.trio_raw.specs.Asked.{back_calls, children_in, release_call}
use Rattle.trio_raw.specs.Has.{Has, poked, peeked, has_all_of, has_nothing, parcel_named, rest_of, with_parcel, read_on, without_read, keeps_lease, keeps_allotted}
use Rattle.trio_script.specs.declared.line.RawLine.{RawLine}
use Rattle.trio_script.specs.declared.line.RawLine.TheVariants.{Grant as GrantLine, Allot as AllotLine, Back as BackLine, Poke, Peek, Release as ReleaseLine, Mode as ModeLine}
use Rattle.trio_report.specs.declared.answer.LineAnswer.{LineAnswer}
use Rattle.trio_report.specs.declared.answer.LineAnswer.TheVariants as answered
use Rattle.trio_report.specs.declared.report.EndAnswer.{EndAnswer}
use Rattle.trio_report.specs.declared.report.EndAnswer.TheVariants.{Nothing, Accepted as EndAccepted, Refused as EndRefused}

-- ---- what a line asks

-- what a line asks of the desk, by what the library has; None where it asks nothing
abbrev pub ask_of : Has → RawLine → Option Ask
ask_of has (GrantLine ino kind) = Some (Grant ino kind)
ask_of has (AllotLine pages numbers) = Some (Allot pages numbers)
ask_of has (ModeLine ino mode) = Some (SetMode ino mode [] None)
ask_of has (BackLine ino) = option_map GiveBack (read_on has ino)
ask_of has (ReleaseLine inos pages numbers) =
    if has_all_of has inos pages numbers then Some (Release (parcel_named has inos pages numbers)) else None
ask_of has (Poke at offset bytes) = None
ask_of has (Peek at offset len) = None

-- ---- what a line is told

-- the bytes that are seen, where they are there
abbrev pub told_seen : Option (List ℕ) → LineAnswer
told_seen (Some bytes) = answered.Seen bytes
told_seen None = answered.Absent

-- what a line is told that asks nothing: whether its bytes were written, which bytes are there, or that the library lacks what it
-- names
abbrev pub told_alone : Has → RawLine → LineAnswer
told_alone has (Poke at offset bytes) = if is_some (poked has at offset bytes) then answered.Poked else answered.Absent
told_alone has (Peek at offset len) = told_seen (peeked has at offset len)
told_alone has _ = answered.Absent

-- how a grant is told: a hold with the number of its file's children
abbrev pub told_grant : GrantKind → ℕ → LineAnswer
told_grant Read children = answered.Granted
told_grant Write children = answered.Granted
told_grant Hold children = answered.GrantedHold children

-- how a refused grant is told; want of memory isn't
abbrev pub told_fault : GrantFault → Option LineAnswer
told_fault NotLive = Some answered.NotLive
told_fault (Denied ino) = Some (answered.Denied ino)
told_fault NoParent = Some answered.NoParent
told_fault (Busy holder) = Some answered.Busy
told_fault NoGrantMemory = None

-- how it is told that more is wanted than is free
abbrev pub told_want : AllotFault → Option LineAnswer
told_want (NoPages wanted free) = Some (answered.NoPages wanted free)
told_want (NoInodes wanted free) = Some (answered.NoInodes wanted free)
told_want NoAllotMemory = None

-- how it is told that a parcel came back unjudged
abbrev pub told_unjudged : ReleaseFault → Option LineAnswer
told_unjudged (NotClosed ino) = Some (answered.NotClosed ino)
told_unjudged NoReleaseMemory = None

-- how a refused change of mode is told
abbrev pub told_unmoded : ModeFault → Option LineAnswer
told_unmoded unmoded.NotLive = Some answered.NotLive
told_unmoded unmoded.NotOwner = Some answered.NotOwner
told_unmoded unmoded.BadMode = Some answered.BadMode
told_unmoded (unmoded.Busy holder) = Some answered.Busy
told_unmoded unmoded.NoMemory = None

-- a verdict is told by its rule
abbrev pub told_verdict : ReleaseAnswer → LineAnswer
told_verdict Accepted = answered.Accepted
told_verdict (Refused rule ino page slot) = answered.Refused rule

-- how the desk's answer to a line is told; None for want of memory, and for an answer that such a line never gets
abbrev pub told_of : RawLine → Told → Option LineAnswer
told_of (GrantLine ino kind) (Lent lease) = Some (told_grant kind (children_in lease))
told_of (GrantLine ino kind) (NotLent fault) = told_fault fault
told_of (AllotLine wanted_pages wanted_numbers) (Given pages numbers) = Some (answered.Allotted pages numbers)
told_of (AllotLine wanted_pages wanted_numbers) (NotGiven fault) = told_want fault
told_of (BackLine ino) Done = Some answered.GivenBack
told_of (ReleaseLine inos pages numbers) (Judged answer) = Some (told_verdict answer)
told_of (ReleaseLine inos pages numbers) (NotJudged fault) = told_unjudged fault
told_of (ModeLine ino mode) ModeSet = Some answered.ModeSet
told_of (ModeLine ino mode) (NotModeSet fault) = told_unmoded fault
told_of said told = None

-- ---- what the library has then

-- the things once bytes were written, where they could be
abbrev pub has_poked : Has → Option Has → Has
has_poked has (Some after) = after
has_poked has None = has

-- what the library has after a line that asks nothing
abbrev pub has_alone : Has → RawLine → Has
has_alone has (Poke at offset bytes) = has_poked has (poked has at offset bytes)
has_alone has _ = has

-- What it has after the desk's answer: a lease beside what it had; allotted pages, all zero, and numbers; without a read lease that
-- was given back; without what a release handed in, which stands behind the rest where it comes back.
abbrev pub has_after : LibNo → Has → RawLine → Told → Has
has_after lib has (GrantLine ino kind) (Lent lease) = keeps_lease has lease
has_after lib has (AllotLine wanted_pages wanted_numbers) (Given pages numbers) = keeps_allotted lib has pages numbers
has_after lib has (BackLine ino) Done = without_read has ino
has_after lib has (ReleaseLine inos pages numbers) (Judged answer) = rest_of has inos pages numbers
has_after lib has (ReleaseLine inos pages numbers) (NotJudged fault) = with_parcel (rest_of has inos pages numbers) (parcel_named has inos pages numbers)
has_after lib has said told = has

-- ---- a line

-- a line that asks nothing makes no call
pub record Alone (has : Has) (said : RawLine) (calls : List Call) (told : LineAnswer) (has' : Has) : Type 0 where
  pub calls_are : calls ≡ []
  pub told_is : told ≡ told_alone has said
  pub has_is : has' ≡ has_alone has said

-- a line that asks makes this one call, whose answer is told
pub record Asks (lib : LibNo) (has : Has) (said : RawLine) (ask : Ask) (calls : List Call) (told : LineAnswer) (has' : Has) : Type 0 where
  pub answer : Told
  pub calls_are : calls ≡ record { ask = ask; told = answer } ∷ []
  pub told_is : told_of said answer ≡ Some told
  pub has_is : has' ≡ has_after lib has said answer

-- what one line comes to: the calls that it makes, what it is told, and what the library has then
abbrev pub LineComes : LibNo → Has → RawLine → List Call → LineAnswer → Has → Type 0
LineComes lib has said calls told has' =
    MatchOption (ask_of has said) (Alone has said calls told has') (λ ask. Asks lib has said ask calls told has')

-- ---- the end

-- how the verdict on all the rest is told
abbrev pub end_of : ReleaseAnswer → EndAnswer
end_of Accepted = EndAccepted
end_of (Refused rule ino page slot) = EndRefused rule

-- the end of a library that has nothing but read leases
pub record EndsAlone (has : Has) (calls : List Call) (end : EndAnswer) : Type 0 where
  pub calls_are : calls ≡ back_calls has.reads
  pub end_is : end ≡ Nothing

-- the end of a library that has something else: all of it is released in one parcel
pub record EndsAll (has : Has) (calls : List Call) (end : EndAnswer) : Type 0 where
  pub answer : ReleaseAnswer
  pub calls_are : calls ≡ back_calls has.reads ++ release_call has (Judged answer) ∷ []
  pub end_is : end ≡ end_of answer

-- what a library's end comes to: its read leases are given back, and then all the rest is released; it has nothing then
abbrev pub EndComes : Has → List Call → EndAnswer → Type 0
EndComes has calls end = MatchBool (has_nothing has) (EndsAlone has calls end) (EndsAll has calls end)
